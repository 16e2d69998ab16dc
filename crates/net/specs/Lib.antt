-- Document 01 as definitions, in its order: the net that a sheet describes, firing and taking back, the session book.
-- Nothing here depends on the number of bases.
pub mod Limits
pub mod Tests
pub mod Sorted
pub mod Net
pub mod Rules
pub mod Connection
pub mod Marking
pub mod Firing
pub mod Checks
pub mod Journal
pub mod History
pub mod Claims
pub mod Cases
pub mod Clutch
