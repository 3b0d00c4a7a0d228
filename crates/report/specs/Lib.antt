pub mod Text
pub mod Reports
