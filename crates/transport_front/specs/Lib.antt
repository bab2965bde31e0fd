-- What a table is, its plans, and the model that it stands for:
pub mod Table
pub mod Plan
-- Its text:
pub mod TableText
pub mod TableTextLaws
pub mod Reading
-- What the code keeps:
pub mod Rows
