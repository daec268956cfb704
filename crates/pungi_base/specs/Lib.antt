pub mod CWords
pub mod Names
pub mod Numbers
pub mod Token
pub mod Witness
pub mod Words
