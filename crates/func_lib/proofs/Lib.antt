pub mod JsonLemmas
pub mod KindLemmas
pub mod PieceLemmas
pub mod UrlLemmas
