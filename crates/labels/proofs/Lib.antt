-- Laws of labels: a bond joined, the sets of the labels, labels over parents, sets gathered anew.
pub mod Joining
pub mod Members
pub mod Trees
pub mod Roots
pub mod Gathering
