-- What the reader and the writer of slips are lent and hand back.
pub mod Packet
