pub mod FirstLaws
pub mod OpenIds
