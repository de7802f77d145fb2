pub mod Taken
pub mod Called
pub mod Digits
pub mod PlaceWords
pub mod Different
pub mod Further
pub mod GivenWords
pub mod WordTexts
