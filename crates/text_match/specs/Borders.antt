-- Working vocabulary, which no public clause cites: how a search for a piece, with ASCII case ignored, goes on from a
-- byte to the next. Where a front of the piece was matched and the next byte is another one, it goes on from the
-- longest shorter front that was matched too.
use Rattle.std.specs.Prelude.{◌≡◌, ℕ, zero, suc, ◌+◌, ◌-◌, ◌<◌, ◌≤◌, List, length, get_or}
use Rattle.std.specs.Char.{to_ascii_lowercase}

-- the byte of a text at a place, as it is compared
abbrev pub folded_at : List ℕ → ℕ → ℕ
folded_at text place = to_ascii_lowercase (get_or text place 0)

-- the piece's front of size `short` ends its front of size `size`
pub record IsEnd (piece : List ℕ) (size short : ℕ) : Type 0 where
  pub within : short ≤ size
  pub same : (k : ℕ) → k < short → folded_at piece k ≡ folded_at piece (size - short + k)

-- the border of a front: the longest shorter front that ends it
pub record IsBorder (piece : List ℕ) (size border : ℕ) : Type 0 where
  pub shorter : border < size
  pub is_end : IsEnd piece size border
  pub longest : (other : ℕ) → other < size → IsEnd piece size other → other ≤ border

-- the borders of the fronts of size 1, 2 and so on
abbrev pub AreBorders : List ℕ → List ℕ → Type 0
AreBorders piece borders = (k : ℕ) → k < length borders → IsBorder piece (k + 1) (get_or borders k 0)

-- a piece's borders are all known
pub record HaveBorders (piece borders : List ℕ) : Type 0 where
  pub as_long : length borders ≡ length piece
  pub are_borders : AreBorders piece borders

-- the front of size `next` ends the front of size `size` and then the byte
abbrev pub Extends : List ℕ → ℕ → ℕ → ℕ → Type 0
Extends piece size byte zero = Unit {0}
Extends piece size byte (suc short) = IsEnd piece size short × (folded_at piece short ≡ byte)

-- the longest front that ends the front of this size and then the byte
pub record IsNext (piece : List ℕ) (size byte next : ℕ) : Type 0 where
  pub extends : Extends piece size byte next
  pub longest : (other : ℕ) → Extends piece size byte other → other ≤ next

-- the piece stands in the text at this place
pub record IsPlace (piece text : List ℕ) (at : ℕ) : Type 0 where
  pub within : at + length piece ≤ length text
  pub same : (k : ℕ) → k < length piece → folded_at piece k ≡ folded_at text (at + k)

-- the piece stands nowhere in the text
abbrev pub IsNoPlace : List ℕ → List ℕ → Type 0
IsNoPlace piece text = (at : ℕ) → ¬ (IsPlace piece text at)

-- the first place of the piece in the text
pub record IsFirstPlace (piece text : List ℕ) (at : ℕ) : Type 0 where
  pub is_place : IsPlace piece text at
  pub first : (other : ℕ) → IsPlace piece text other → at ≤ other
