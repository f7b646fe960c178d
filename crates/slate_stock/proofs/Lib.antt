mod SumLaws
mod PutLaws
mod KeyLaws
mod OrderLaws
pub mod JournalLaws
pub mod ReadingLaws
pub mod LegLaws
pub mod MapLaws
pub mod ForeignLaws
pub mod ShownLaws
pub mod OpenLaws
pub mod StepLaws
pub mod CauseLaws
pub mod CoreLaws
pub mod EndLaws
pub mod StoredLaws
pub mod TotalLaws
pub mod BookLaws
pub mod ErrorKinds
pub mod RunLaws
pub mod GoingLaws
pub mod AttemptLaws
pub mod AttemptCauses
