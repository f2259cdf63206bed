pub mod StandardFacts
pub mod ReadingLaws
pub mod WritingLaws
pub mod OneReading
pub mod LengthLaws
pub mod SizedContexts
pub mod PutLaws
mod RangeLaws
mod MessageFound
mod KindFound
pub mod WholeFound
pub mod Headed
pub mod FromFrames
pub mod FirstFault
pub mod HeaderFault
pub mod FaultAgain
pub mod RefusalAgain
mod PartsAgain
pub mod WholeAgain
pub mod PartsPassed
pub mod PartsWhole
pub mod Written
pub mod CallerLemmas
