-- Of each text it can be told whether it is an item of an address list.
use Rattle.std.proofs.Common.{◌≡◌, ℕ, zero, suc, ◌+◌, ◌≤◌, ◌<◌, ◌⊎◌, inl, inr, true, false, nat_le, List, [], ◌∷◌, ◌++◌, take, drop, length, length-append, Option, Some, None, codes, bytes_eq, refl, sym, ◌∙◌, ap, subst, arith, append_assoc, take_at, drop_at}
use Rattle.std.proofs.lemmas.Bool.{cases_Bool, cases_lt}
use Rattle.std.proofs.lemmas.Bool.Decides.{nat_tests}
use Rattle.std.proofs.lemmas.Option.{none-some, same_Some}
use Rattle.std.proofs.lemmas.Slice.Eq.{bytes_eq-Decides}
use Rattle.std.specs.List.{before_first, after_first}
use Rattle.edge_base.specs.declared.address.Addr.{Addr}
use Rattle.edge_base.specs.declared.address.Addr.TheVariants as addr
use Rattle.edge_base.specs.declared.expression.Lit.TheVariants as lit
use Rattle.edge_base.specs.declared.expression.Item.{Item}
use Rattle.edge_base.specs.declared.expression.Item.TheVariants as item
use Rattle.edge_base.specs.Address.{IsAddrText}
use Rattle.edge_base.specs.Token.{IsBlockText, bits_of}
use Rattle.edge_base.proofs.BlockLemmas.{is_slash}
use Rattle.edge_base.proofs.FoundLemmas.{Found, found-address}
use Rattle.addr_set.specs.Sets.{width_of, IsRange, IsAddrItem}
use Rattle.addr_set.specs.ItemTexts.{IsOneFamily, IsRangeText, IsItemText, IsGoodText}
use Rattle.addr_set.proofs.ReadingLemmas.{IsItemText-unique}

-- a fact holds or fails
abbrev Holds : Type 0 → Type 0
Holds P = P ⊎ (¬ P)

-- ---- ranges

one_family : (a b : Addr) → Holds (IsOneFamily a b)
one_family (addr.V4 m) (addr.V4 n) = inl tt
one_family (addr.V4 m) (addr.V6 n) = inr (λ h. h)
one_family (addr.V6 m) (addr.V4 n) = inr (λ h. h)
one_family (addr.V6 m) (addr.V6 n) = inl tt

abbrev dots : List ℕ
dots = codes ".."

-- the text is cut at this place into two addresses of one family
record IsCutAt (text : List ℕ) (at : ℕ) (first last : Addr) : Type 0 where
  spelled : text ≡ take at text ++ dots ++ drop (at + 2) text
  is_first : IsAddrText (take at text) first
  is_last : IsAddrText (drop (at + 2) text) last
  family : IsOneFamily first last

abbrev HasCutAt : List ℕ → ℕ → Type 0
HasCutAt text at = (first last : Addr) × IsCutAt text at first last

module _ (text : List ℕ) (at : ℕ) where
  of_family : (spelled : text ≡ take at text ++ dots ++ drop (at + 2) text) (first last : Addr) → IsAddrText (take at text) first
      → IsAddrText (drop (at + 2) text) last → Holds (IsOneFamily first last) → Holds (HasCutAt text at)
  of_family spelled first last p q (inl family) = inl (first, last, record { spelled = spelled; is_first = p; is_last = q; family = family })
  of_family spelled first last p q (inr apart) = inr (λ h.
      let (a, b, cut) = h in
      let same : item.One (lit.Addr a) ≡ item.One (lit.Addr first) = IsItemText-unique (take at text) _ _ cut.is_first p in
      let other : item.One (lit.Addr b) ≡ item.One (lit.Addr last) = IsItemText-unique (drop (at + 2) text) _ _ cut.is_last q in
      let is_first : a ≡ first = cc in
      let is_last : b ≡ last = cc in
      apart (subst (λ x. IsOneFamily x last) is_first (subst (λ y. IsOneFamily a y) is_last cut.family)))

  of_addresses : (spelled : text ≡ take at text ++ dots ++ drop (at + 2) text) → Found (IsAddrText (take at text))
      → Found (IsAddrText (drop (at + 2) text)) → Holds (HasCutAt text at)
  of_addresses spelled (inl (first, p)) (inl (last, q)) = of_family spelled first last p q (one_family first last)
  of_addresses spelled (inl (first, p)) (inr none) = inr (λ h. none h.1 h.2.is_last)
  of_addresses spelled (inr none) other = inr (λ h. none h.0 h.2.is_first)

  cut_found : Holds (HasCutAt text at)
  cut_found = elim (cases_Bool (bytes_eq text (take at text ++ dots ++ drop (at + 2) text))) [
    | inl same ↦
        of_addresses ((bytes_eq-Decides text (take at text ++ dots ++ drop (at + 2) text)).0 same)
        (found-address (take at text)) (found-address (drop (at + 2) text))
    | inr other ↦ inr (λ h.
        let same = (bytes_eq-Decides text (take at text ++ dots ++ drop (at + 2) text)).1 h.2.spelled in
        let never : true ≡ false = sym same ∙ other in cc)
  ]

-- the text is cut at a place below this one, or at none of them
cut_below : (text : List ℕ) (end : ℕ) → ((at : ℕ) × HasCutAt text at) ⊎ ((at : ℕ) → at < end → ¬ (HasCutAt text at))
cut_below text zero = inr (λ at below. absurd (omega arith))
cut_below text (suc end) = of_last (cut_found text end) (cut_below text end) where
  of_last : Holds (HasCutAt text end) → ((at : ℕ) × HasCutAt text at) ⊎ ((at : ℕ) → at < end → ¬ (HasCutAt text at))
      → ((at : ℕ) × HasCutAt text at) ⊎ ((at : ℕ) → at < suc end → ¬ (HasCutAt text at))
  of_last (inl cut) other = inl (end, cut)
  of_last (inr none) (inl cut) = inl cut
  of_last (inr none) (inr before) = inr (λ at below. elim (cases_lt at end) [
    | inl early ↦ before at early
    | inr late ↦ let same : end ≡ at = omega arith in subst (λ k. ¬ (HasCutAt text k)) same none
  ])

-- a range is cut where its first address ends
range_cut : (text : List ℕ) (first last : Addr) → IsRangeText text first last → (at : ℕ) × (at < suc (length text)) × HasCutAt text at
range_cut text first last h =
    let at = length h.left in
    let apart : text ≡ h.left ++ (dots ++ h.right) = h.spelled ∙ append_assoc h.left dots h.right in
    let front : take at text ≡ h.left = ap (take at) apart ∙ take_at h.left (dots ++ h.right) at refl in
    let two : length dots ≡ 2 = refl in
    let size : length (h.left ++ dots) ≡ at + 2 = length-append h.left dots ∙ ap (λ n. at + n) two in
    let back : drop (at + 2) text ≡ h.right = ap (drop (at + 2)) h.spelled ∙ drop_at (h.left ++ dots) h.right (at + 2) size in
    let within : length text ≡ at + length (dots ++ h.right) = ap length apart ∙ length-append h.left (dots ++ h.right) in (
      at,
      (let long : length text ≡ at + (2 + length h.right) = within ∙ ap (λ n. at + n) (length-append dots h.right) in omega (arith, long)),
      (
        first,
        last,
        record {
          spelled = h.spelled ∙ ap (λ xs. xs ++ dots ++ h.right) (sym front) ∙ ap (λ xs. take at text ++ dots ++ xs) (sym back);
          is_first = subst (λ t. IsAddrText t first) (sym front) h.is_first;
          is_last = subst (λ t. IsAddrText t last) (sym back) h.is_last;
          family = h.one_family;
        },
      ),
    )

range_found : (text : List ℕ) → Holds ((first last : Addr) × IsRangeText text first last)
range_found text = of_cut (cut_below text (suc (length text))) where
  of_cut : ((at : ℕ) × HasCutAt text at) ⊎ ((at : ℕ) → at < suc (length text) → ¬ (HasCutAt text at))
      → Holds ((first last : Addr) × IsRangeText text first last)
  of_cut (inl (at, (first, last, cut))) = inl (
    first,
    last,
    record {
      left = take at text;
      right = drop (at + 2) text;
      spelled = cut.spelled;
      is_first = cut.is_first;
      is_last = cut.is_last;
      one_family = cut.family;
    },
  )
  of_cut (inr none) = inr (λ h. let (at, below, cut) = range_cut text h.0 h.1 h.2 in none at below cut)

-- ---- blocks

block_found : (text : List ℕ) → Holds ((base : Addr) × (bits : ℕ) × IsBlockText text base bits)
block_found text = of_parts (found-address (before_first is_slash text)) (bits_of (after_first is_slash text)) refl where
  of_parts : Found (IsAddrText (before_first is_slash text)) → (read : Option ℕ) → bits_of (after_first is_slash text) ≡ read
      → Holds ((base : Addr) × (bits : ℕ) × IsBlockText text base bits)
  of_parts (inl (base, is)) (Some bits) read = inl (base, bits, (is, read))
  of_parts (inl (base, is)) None read = inr (λ h. none-some h.1 (sym read ∙ h.2.1))
  of_parts (inr none) read is = inr (λ h. none h.0 h.2.0)

-- ---- items

range_holds : (first last : Addr) → Holds (IsRange first last)
range_holds (addr.V4 m) (addr.V4 n) = elim (cases_lt n m) [ inl above ↦ inr (λ h. omega (arith, h)) | inr within ↦ inl (omega arith) ]
range_holds (addr.V4 m) (addr.V6 n) = inr (λ h. h)
range_holds (addr.V6 m) (addr.V4 n) = inr (λ h. h)
range_holds (addr.V6 m) (addr.V6 n) = elim (cases_lt n m) [ inl above ↦ inr (λ h. omega (arith, h)) | inr within ↦ inl (omega arith) ]

fits_holds : (base : Addr) (bits : ℕ) → Holds (bits ≤ width_of base)
fits_holds base bits = elim (cases_lt (width_of base) bits) [ inl above ↦ inr (λ h. omega (arith, h)) | inr within ↦ inl (omega arith) ]

good_holds : (one : Item) → Holds (IsAddrItem one)
good_holds (item.One (lit.Text t)) = inr (λ h. h)
good_holds (item.One (lit.Num n)) = inr (λ h. h)
good_holds (item.One (lit.Addr a)) = inl tt
good_holds (item.One (lit.Bool b)) = inr (λ h. h)
good_holds (item.Nums m n) = inr (λ h. h)
good_holds (item.Addrs first last) = range_holds first last
good_holds (item.Block base bits) = fits_holds base bits

-- a text that stands for an item stands for no other
of_item : (text : List ℕ) (one : Item) → IsItemText text one → Holds (IsAddrItem one) → Found (IsGoodText text)
of_item text one is (inl good) = inl (one, record { spelled = is; is_good = good })
of_item text one is (inr bad) = inr (λ other h. bad (subst IsAddrItem (IsItemText-unique text other one h.spelled is) h.is_good))

module _ (text : List ℕ) (no_address : (a : Addr) → ¬ (IsAddrText text a)) (no_range : ¬ ((first last : Addr) × IsRangeText text first last))
    (no_block : ¬ ((base : Addr) × (bits : ℕ) × IsBlockText text base bits)) where
  no_item : (one : Item) → ¬ (IsItemText text one)
  no_item (item.One (lit.Text t)) h = h
  no_item (item.One (lit.Num n)) h = h
  no_item (item.One (lit.Addr a)) h = no_address a h
  no_item (item.One (lit.Bool b)) h = h
  no_item (item.Nums m n) h = h
  no_item (item.Addrs first last) h = no_range (first, last, h)
  no_item (item.Block base bits) h = no_block (base, bits, h)

pub found-good : (text : List ℕ) → Found (IsGoodText text)
found-good text = of_kinds (found-address text) (range_found text) (block_found text) where
  of_kinds : Found (IsAddrText text) → Holds ((first last : Addr) × IsRangeText text first last)
      → Holds ((base : Addr) × (bits : ℕ) × IsBlockText text base bits) → Found (IsGoodText text)
  of_kinds (inl (a, is)) range block = of_item text (item.One (lit.Addr a)) is (inl tt)
  of_kinds (inr no_address) (inl (first, last, is)) block = of_item text (item.Addrs first last) is (good_holds (item.Addrs first last))
  of_kinds (inr no_address) (inr no_range) (inl (base, bits, is)) = of_item text (item.Block base bits) is (good_holds (item.Block base bits))
  of_kinds (inr no_address) (inr no_range) (inr no_block) =
      inr (λ one h. no_item text no_address no_range no_block one h.spelled)
