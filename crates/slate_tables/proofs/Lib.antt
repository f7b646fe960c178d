pub mod Sequences
pub mod Together
pub mod Folds
pub mod Merged
pub mod Exported
pub mod Moments
pub mod Loading
pub mod LoadText
pub mod Moved
pub mod Sources
pub mod PathsApart
pub mod TableInfos
pub mod Worlds
mod HexLaws
mod ListingLaws
pub mod FindLaws
mod BlockLaws
mod RowOrder
mod TallyLaws
mod RealLaws
pub mod PartLaws
pub mod CheckLaws
mod RunLaws
mod FlawLaws
pub mod NewExports
pub mod Undamaged
pub mod Writings
pub mod Movings
pub mod Points
pub mod ListedTables
pub mod Openings
