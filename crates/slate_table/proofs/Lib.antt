pub mod Sections
pub mod PartsLaws
mod SumLaws
pub mod Asking
pub mod BuiltLaws
pub mod EndLaws
pub mod Cuttings
pub mod IndexWrites
pub mod Separators
pub mod IndexReads
pub mod FrameLaws
pub mod IndexLaws
pub mod FilterLaws
pub mod TableLaws
pub mod Unasked
pub mod StoredLaws
pub mod CutLaws
mod CrcLaws
mod FoldLaws
mod Grown
mod FilterWrites
mod Results
mod StatsReads
mod InfoReads
mod SectionAsks
mod SectionReads
mod OrderLaws
mod PathLaws
mod PartReads
mod BlockReads
mod EqualStats
mod OpenReads
mod FileReads
pub mod FrameReads
pub mod ReadCalls
pub mod OpenLaws
pub mod IndexOrder
pub mod HeldParts
pub mod Covering
pub mod TableFinds
pub mod Damaged
pub mod PolicyReads
pub mod FilteredLaws
mod FiltersReads
mod FilterAnswers
mod FiltersCalls
mod ChangedBytes
pub mod ChangedSections
