-- What a source, a sink and a link show of themselves, and when the count of a link rises.
use Rattle.std.specs.Prelude.{ℕ, ◌+◌, ◌-◌, ◌^◌, ◌⊎◌, List, Option, None, min}
use Rattle.edge_outside.specs.Faults.{Rose}

-- a source: the bytes that were taken and those that are left, where it tells them, and its count of faults
pub record SourceShown : Type 0 where
  pub taken : Option (List ℕ)
  pub left : Option (List ℕ)
  pub faults : ℕ

-- a sink: the bytes that it got, where it tells them, and its count of faults
pub record SinkShown : Type 0 where
  pub got : Option (List ℕ)
  pub faults : ℕ

-- a link: its source and its sink
pub record LinkShown : Type 0 where
  pub source : SourceShown
  pub sink : SinkShown

-- what stands beside a sink that is no link
abbrev pub no_source : SourceShown
no_source = record { taken = None; left = None; faults = 0 }

-- what stands beside a source that is no link
abbrev pub no_sink : SinkShown
no_sink = record { got = None; faults = 0 }

-- a link's count of faults: the sum of its two counts, up to the last value
abbrev pub faults_of : LinkShown → ℕ
faults_of link = min (link.source.faults + link.sink.faults) (2 ^ 64 - 1)

-- one of the two counts of a link rose
abbrev pub LinkRose : LinkShown → LinkShown → Type 0
LinkRose before now = Rose before.source.faults now.source.faults ⊎ Rose before.sink.faults now.sink.faults
