pub mod BothLemmas
pub mod ChangedLemmas
pub mod HeadLemmas
pub mod ItemLemmas
pub mod MadeLemmas
pub mod MemberLemmas
pub mod PairLemmas
pub mod SentLemmas
