pub mod RewriteLemmas
