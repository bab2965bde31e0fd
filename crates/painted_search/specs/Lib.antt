-- Steps and numbers as words, and where the words of a room lie:
pub mod StepWords
pub mod Laid
pub mod Zeroed
pub mod LaidFacts
-- The working room, and what becomes of it when it is written to:
pub mod Room
pub mod SizedFacts
pub mod Writes
pub mod Lending
pub mod Fits
-- The answers of a search:
pub mod Path
-- How a search comes to them:
pub mod Reaching
pub mod Tree
