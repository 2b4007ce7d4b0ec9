-- What a listener gives, and what it shows of the links that it gave and took back.
use Rattle.std.specs.Prelude.{ℕ, Bool, List, [], ◌∷◌, ◌++◌, Option, None, Some, Result, Ok, Err}
use Rattle.std.specs.Option.{option_map}
use Rattle.edge_base.specs.declared.address.Addr.{Addr}
use Rattle.edge_outside.specs.Faults.{next_count}
use Rattle.edge_outside.specs.Shown.{LinkShown}

-- a link as it was given: what it showed, the address of its peer, and whether it came over TLS
pub record GivenLink : Type 0 where
  pub link : LinkShown
  pub from : Addr
  pub ssl : Bool

-- the link that a call gave, if it gave one
abbrev pub link_given : {L E : Type 0} → (L → LinkShown) → Result (Option (L × Addr × Bool)) E → Option GivenLink
link_given shown (Ok None) = None
link_given shown (Ok (Some (link, from, ssl))) = Some (record { link = shown link; from = from; ssl = ssl })
link_given shown (Err fault) = None

-- a count of links with the one that was given, if one was
abbrev pub count_with : Option GivenLink → ℕ → ℕ
count_with None count = count
count_with (Some given) count = next_count count

-- links, where they are told, with one more
abbrev pub with_link : {A : Type 0} → A → Option (List A) → Option (List A)
with_link link links = option_map (λ told. told ++ link ∷ []) links

-- links, where they are told, with the one that was given, if one was
abbrev pub links_with : Option GivenLink → Option (List GivenLink) → Option (List GivenLink)
links_with None links = links
links_with (Some given) links = with_link given links
