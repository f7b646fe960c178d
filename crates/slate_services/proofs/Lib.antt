pub mod PlainLaws
pub mod PaymentLaws
pub mod RecordLaws
pub mod JobLaws
pub mod FlushingLaws
