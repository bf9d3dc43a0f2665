pub mod Results
pub mod Worths
pub mod Marks
pub mod Pass
pub mod Answers
