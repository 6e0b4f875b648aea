pub mod Constants
pub mod ElementValues
pub mod MemberValues
pub mod PlainValues
pub mod SettledValues
