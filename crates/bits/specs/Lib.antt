-- The binary digits of a number, as numbers (Digits) and as Booleans (Bits), with their laws: values packed at the set places of a map
-- (Packed), the way back (Gathered), a walk over these places (Places), and operations on whole words (Masks).
pub mod Digits
pub mod Places
pub mod Bits
