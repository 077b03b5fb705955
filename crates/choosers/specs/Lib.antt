pub mod Rules
pub mod RuleText
