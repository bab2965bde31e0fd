-- What a region is seen as:
pub mod Words
-- Its blocks, and what becomes of them:
pub mod Blocks
pub mod Lending
