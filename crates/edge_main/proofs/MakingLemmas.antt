-- The lines of a large valid input, from its first on.
use Rattle.std.proofs.Common.{◌≡◌, ◌≤◌, ℕ, zero, suc, ◌+◌, ◌-◌, List, [], ◌++◌, Option, take, drop, refl, sym, ap, subst, ◌∙◌, arith, append_assoc, append-nil, take-append-drop}
use Rattle.std.specs.Io.KnownBytes.{Appends}
use Rattle.std.proofs.KnownBytes.{Appends-trans}
use Rattle.edge_outside.specs.Told.{AppendsFront}
use Rattle.trace_form.specs.Made.{made_line}
use Rattle.edge_main.specs.Making.{made_lines, AddsLines, WroteFrontOf}

-- one more line
pub line_next : (seed index : ℕ) → made_lines seed index ++ made_line seed index ≡ made_lines seed (suc index)
unfolding made_lines
line_next seed index = refl

pub no_lines : (seed : ℕ) → [] ≡ made_lines seed 0
unfolding made_lines
no_lines seed = refl

-- one more line was added
pub adds_line : (seed from index index' : ℕ) (before now line now' : List ℕ) → AddsLines seed from index before now
    → index' ≡ suc index → line ≡ made_line seed index → now' ≡ now ++ line → AddsLines seed from index' before now'
adds_line seed from index index' before now line now' adds is_next is_line is_now written is_written =
    ap (λ (text : List ℕ). written ++ text) is_now ∙ sym (append_assoc written now line)
    ∙ ap (λ (text : List ℕ). text ++ line) (adds written is_written) ∙ ap (λ (text : List ℕ). made_lines seed index ++ text) is_line
    ∙ line_next seed index ∙ sym (ap (made_lines seed) is_next)

-- the lines begin with the first of them
lines_more : (seed count more end : ℕ) → end ≡ more + count → (rest : List ℕ) × (made_lines seed end ≡ made_lines seed count ++ rest)
lines_more seed count zero end is =
    let same : end ≡ count = omega (arith, is) in
    ([], ap (made_lines seed) same ∙ sym (append-nil (made_lines seed count)))
lines_more seed count (suc more) end is =
    let last : end ≡ suc (more + count) = omega (arith, is) in
    let (rest, before) = lines_more seed count more (more + count) refl in (
      rest ++ made_line seed (more + count),
      ap (made_lines seed) last ∙ sym (line_next seed (more + count))
          ∙ ap (λ (text : List ℕ). text ++ made_line seed (more + count)) before
          ∙ append_assoc (made_lines seed count) rest (made_line seed (more + count)),
    )

pub lines_front : (seed count end : ℕ) → count ≤ end → (rest : List ℕ) × (made_lines seed end ≡ made_lines seed count ++ rest)
lines_front seed count end low =
    let all : end ≡ (end - count) + count = omega (arith, low) in
    lines_more seed count (end - count) end all

-- only the first lines were written
pub wrote_lines : (seed count end : ℕ) (before now : Option (List ℕ)) → count ≤ end → Appends before now (made_lines seed count)
    → WroteFrontOf (made_lines seed end) before now
wrote_lines seed count end before now low wrote =
    let (rest, is) = lines_front seed count end low in
    (made_lines seed count, rest, wrote, is)

-- a batch was written
pub wrote_batch : (seed from to : ℕ) (first before now : Option (List ℕ)) (lines : List ℕ) → Appends first before (made_lines seed from)
    → AddsLines seed from to [] lines → Appends before now lines → Appends first now (made_lines seed to)
wrote_batch seed from to first before now lines wrote adds more =
    subst (λ (text : List ℕ). Appends first now text) (adds (made_lines seed from) (append-nil (made_lines seed from)))
    (Appends-trans first before now (made_lines seed from) lines wrote more)

-- a batch was written in part
pub cut_batch : (seed from to end : ℕ) (first before now : Option (List ℕ)) (lines : List ℕ) → to ≤ end
    → Appends first before (made_lines seed from) → AddsLines seed from to [] lines → AppendsFront before now lines
    → WroteFrontOf (made_lines seed end) first now
cut_batch seed from to end first before now lines low wrote adds (count, fewer, some) =
    let (rest, is) = lines_front seed to end low in
    let all = adds (made_lines seed from) (append-nil (made_lines seed from)) in
    let whole = sym all ∙ ap (λ (text : List ℕ). made_lines seed from ++ text) (sym (take-append-drop count lines))
    ∙ sym (append_assoc (made_lines seed from) (take count lines) (drop count lines)) in (
      made_lines seed from ++ take count lines,
      drop count lines ++ rest,
      Appends-trans first before now (made_lines seed from) (take count lines) wrote some,
      is ∙ ap (λ (text : List ℕ). text ++ rest) whole
          ∙ append_assoc (made_lines seed from ++ take count lines) (drop count lines) rest,
    )
