-- How much terminals nest where they stand: as parts of a path or a test, as a unit, and as a chain.
use Rattle.std.proofs.Common.{◌≡◌, ℕ, ◌+◌, max, List, [], ◌∷◌, ◌++◌, refl, ap, ◌∙◌, sym, append_assoc, arith}
use Rattle.edge_base.specs.declared.terminal.Terminal.{Terminal}
use Rattle.edge_base.specs.declared.terminal.Terminal.TheVariants as terminal
use Rattle.edge_base.specs.Nesting.{open_around, open_now, deepest}

-- the `not`s that are pending end where this rest begins: the scan of it is the same with none
pub record IsClosing (rest : List Terminal) (around : List ℕ) : Type 0 where
  pub closes : (pending : ℕ) → deepest rest pending around ≡ deepest rest 0 around

-- the terminals nest this much deeper than where they stand, and leave pending what was pending
pub record Rises (ts : List Terminal) (height : ℕ) : Type 0 where
  pub scan : (pending : ℕ) (around : List ℕ) (rest : List Terminal) → deepest (ts ++ rest) pending around ≡ max (open_now pending around + height) (deepest rest pending around)

-- the same of a unit, before a rest that ends it
pub record UnitRises (ts : List Terminal) (height : ℕ) : Type 0 where
  pub scan : (pending : ℕ) (around : List ℕ) (rest : List Terminal) → IsClosing rest around
      → deepest (ts ++ rest) pending around ≡ max (open_now pending around + height) (deepest rest 0 around)

-- the same of a chain, which begins with none pending
pub record ChainRises (ts : List Terminal) (height : ℕ) : Type 0 where
  pub scan : (around : List ℕ) (rest : List Terminal) → IsClosing rest around → deepest (ts ++ rest) 0 around ≡ max (open_now 0 around + height) (deepest rest 0 around)

-- the terminal joins the members of a chain: it ends the unit before it
pub record Joins (joint : Terminal) : Type 0 where
  pub scan : (pending : ℕ) (around : List ℕ) (rest : List Terminal) → deepest (joint ∷ rest) pending around ≡ max (open_now 0 around) (deepest rest 0 around)

pub end_closes : IsClosing [] []
end_closes = record { closes = λ pending. refl }

close_closes : (rest : List Terminal) (outer : ℕ) (around : List ℕ) → IsClosing (terminal.Close ∷ rest) (outer ∷ around)
close_closes rest outer around = record { closes = λ pending. refl }

joint_closes : {joint : Terminal} → Joins joint → (rest : List Terminal) (around : List ℕ) → IsClosing (joint ∷ rest) around
joint_closes j rest around = record { closes = λ pending. j.scan pending around rest ∙ sym (j.scan 0 around rest) }

pub and_joins : Joins terminal.And
and_joins = record { scan = λ pending around rest. refl }

pub xor_joins : Joins terminal.Xor
xor_joins = record { scan = λ pending around rest. refl }

pub or_joins : Joins terminal.Or
or_joins = record { scan = λ pending around rest. refl }

pub comma_joins : Joins terminal.Comma
comma_joins = record { scan = λ pending around rest. refl }

pub unit_rises : {ts : List Terminal} {h : ℕ} → Rises ts h → UnitRises ts h
unit_rises {ts} {h} r = record { scan = λ pending around rest c. r.scan pending around rest ∙ ap (max (open_now pending around + h)) (c.closes pending) }

pub chain_rises : {ts : List Terminal} {h : ℕ} → UnitRises ts h → ChainRises ts h
chain_rises r = record { scan = λ around rest c. r.scan 0 around rest c }

-- two parts, one behind the other
joined_max : (base h k d : ℕ) → max (base + h) (max (base + k) d) ≡ max (base + max h k) d
joined_max base h k d = omega arith

pub append_rises : {ts us : List Terminal} {h k : ℕ} → Rises ts h → Rises us k → Rises (ts ++ us) (max h k)
append_rises {ts} {us} {h} {k} r s = record {
  scan = λ pending around rest.
      ap (λ xs. deepest xs pending around) (append_assoc ts us rest)
      ∙ r.scan pending around (us ++ rest)
      ∙ ap (max (open_now pending around + h)) (s.scan pending around rest)
      ∙ joined_max (open_now pending around) h k (deepest rest pending around);
}

-- `not` and a unit
negated_max : (pending outside h d : ℕ) → max (pending + 1 + outside) (max (pending + 1 + outside + h) d) ≡ max (pending + outside + (h + 1)) d
negated_max pending outside h d = omega arith

pub negated_rises : {ts : List Terminal} {h : ℕ} → UnitRises ts h → UnitRises (terminal.Not ∷ ts) (h + 1)
negated_rises {ts} {h} r = record {
  scan = λ pending around rest c.
      ap (max (open_now (pending + 1) around)) (r.scan (pending + 1) around rest c)
      ∙ negated_max pending (open_around around) h (deepest rest 0 around);
}

-- a chain or arguments in parentheses
grouped_max : (pending outside h d : ℕ)
    → max (0 + (pending + 1 + outside)) (max (0 + (pending + 1 + outside) + h) (max (pending + outside) d)) ≡ max (pending + outside + (h + 1)) d
grouped_max pending outside h d = omega arith

pub grouped_rises : {ts : List Terminal} {h : ℕ} → ChainRises ts h → Rises (terminal.Open ∷ ts ++ terminal.Close ∷ []) (h + 1)
grouped_rises {ts} {h} r = record {
  scan = λ pending around rest.
      ap (λ xs. max (open_now 0 (pending ∷ around)) (deepest xs 0 (pending ∷ around))) (append_assoc ts (terminal.Close ∷ []) rest)
      ∙ ap (max (open_now 0 (pending ∷ around))) (r.scan (pending ∷ around) (terminal.Close ∷ rest) (close_closes rest pending around))
      ∙ grouped_max pending (open_around around) h (deepest rest pending around);
}

-- members joined
chained_max : (base h k d : ℕ) → max (base + h) (max base (max (base + k) d)) ≡ max (base + max h k) d
chained_max base h k d = omega arith

pub joined_rises : {joint : Terminal} {ts us : List Terminal} {h k : ℕ} → Joins joint → ChainRises ts h → ChainRises us k → ChainRises (ts ++ joint ∷ us) (max h k)
joined_rises {joint} {ts} {us} {h} {k} j r s = record {
  scan = λ around rest c.
      ap (λ xs. deepest xs 0 around) (append_assoc ts (joint ∷ us) rest)
      ∙ r.scan around (joint ∷ us ++ rest) (joint_closes j (us ++ rest) around)
      ∙ ap (max (open_now 0 around + h)) (j.scan 0 around (us ++ rest) ∙ ap (max (open_now 0 around)) (s.scan around rest c))
      ∙ chained_max (open_now 0 around) h k (deepest rest 0 around);
}
