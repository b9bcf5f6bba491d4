pub mod Texts
pub mod Responses
pub mod Answers
pub mod Codings
pub mod Replies
