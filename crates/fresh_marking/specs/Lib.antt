-- What reading a sheet's start needs.
pub mod Start
