pub mod KeepsTheRules
pub mod RuleExamples
