pub mod SortedRowsLaws
pub mod CommitListLaws
