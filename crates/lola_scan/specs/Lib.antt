pub mod Bytes
pub mod Front
pub mod Piece
pub mod Tokens
