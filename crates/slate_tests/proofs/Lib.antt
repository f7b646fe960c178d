pub mod OpenIds
