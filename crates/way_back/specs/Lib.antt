-- Request T-04 as definitions: sets of live firings that are taken back, the search; what is claimed; what a call gives.
pub mod Ways
pub mod Claims
pub mod Answer
pub mod Search
