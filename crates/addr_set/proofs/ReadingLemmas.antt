-- Where `..` and `/` stand in the text of an item, and what is read on both sides.
use Rattle.std.proofs.Common.{◌≡◌, ◌≢◌, ℕ, Bool, true, not, ◌==◌, suc, ◌+◌, ◌-◌, ◌<◌, ◌≤◌, List, [], ◌∷◌, ◌++◌, length, get_or, take, drop, Some, None, Result, Ok, Err, refl, sym, ap, ◌∙◌, subst, inl, inr, arith, append_assoc, append-nil, length-append, add-one, add-zero, eqb-true, eq-eqb, take_at, drop_at, take-append-drop}
use Rattle.std.proofs.lemmas.Bool.{cases_lt, and_from}
use Rattle.std.proofs.lemmas.Bool.Decides.{nat_tests}
use Rattle.std.specs.Bool.{MatchBool}
use Rattle.std.specs.Result.{is_ok}
use Rattle.std.proofs.lemmas.List.{get_or_append_left, get_or-append_right, get_or_past}
use Rattle.std.proofs.Math.Seq.{drop-cons}
use Rattle.std.specs.Str.Parse.{AllDigits}
use Rattle.std.specs.List.{list_all, before_first, after_first}
use Rattle.memchr.specs.Find.{IsFirstByte, FindsNeedle, OccursAt, is_byte}
use Rattle.edge_base.specs.declared.address.Addr.{Addr}
use Rattle.edge_base.specs.declared.address.Addr.TheVariants as addr
use Rattle.edge_base.specs.declared.expression.Lit.TheVariants as lit
use Rattle.edge_base.specs.declared.expression.Item.{Item}
use Rattle.edge_base.specs.declared.expression.Item.TheVariants as item
use Rattle.edge_base.specs.Address.{IsAddrText}
use Rattle.edge_base.specs.Token.{bits_of, IsBlockText}
use Rattle.edge_base.proofs.AddressLemmas.{IsAddrText-unique}
use Rattle.edge_base.proofs.BlockLemmas.{is_slash, block_joined, block_splits}
use Rattle.addr_set.proofs.PrefixLemmas.{bits_digits}
use Rattle.addr_set.specs.declared.reading.Flaw.{Flaw}
use Rattle.addr_set.specs.declared.reading.Flaw.TheVariants as flaw
use Rattle.addr_set.specs.Sets.{width_of, IsRange, IsAddrItem}
use Rattle.addr_set.specs.ItemTexts.{IsOneFamily, IsBelow, IsRangeText, IsItemText, IsGoodText, IsNoItemText, IsLongPrefix, IsBackward, IsRefused, ItemIsUnique}
use Rattle.addr_set.specs.Readings.{Reads, ReadsRange, ReadsBlock}
use Rattle.addr_set.proofs.CleanLemmas.{HasNoSlash, HasDotsApart, HasDotsApart-append, HasDotsApart-digits, AllDigits-weaker, IsClean-address, no_slash_at, digit_after_dot}

abbrev dots : List ℕ
dots = 46 ∷ 46 ∷ []

-- where a needle stands between two lists
between : (left needle right : List ℕ) → OccursAt (left ++ needle ++ right) needle (length left)
between left needle right = record {
  fits = rw (length-append, length-append) (omega arith);
  reads = λ j below.
      let first : get_or (left ++ needle ++ right) (length left + j) 0 ≡ get_or (left ++ needle) (length left + j) 0 =
      get_or_append_left (left ++ needle) right 0 (length left + j) (rw length-append (omega arith)) in
      let second = get_or-append_right left needle (length left) (length left + j) 0 refl (omega arith) in
      let back : length left + j - length left ≡ j = omega arith in
      first ∙ second ∙ ap (λ k. get_or needle k 0) back;
}

-- no `..` begins in a list whose dots are apart
no_dots_in : (xs rest : List ℕ) (k : ℕ) → HasDotsApart xs → k < length xs → ¬ (OccursAt (xs ++ rest) dots k)
no_dots_in xs rest k apart below occurs =
    let here : get_or xs k 0 ≡ 46 = sym (get_or_append_left xs rest 0 k below) ∙ ap (λ i. get_or (xs ++ rest) i 0) (sym (add-zero k)) ∙ occurs.reads 0 (omega arith) in
    let digit = digit_after_dot xs k (k + 1) apart here refl in
    let next : get_or (xs ++ rest) (k + 1) 0 ≡ 46 = occurs.reads 1 (omega arith) in
    elim (cases_lt (k + 1) (length xs)) [
      | inl within ↦
          let same = get_or_append_left xs rest 0 (k + 1) within in
          omega arith
      | inr past ↦
          let none = get_or_past xs (k + 1) 0 past in
          omega arith
    ]

no_dots : (xs : List ℕ) (k : ℕ) → HasDotsApart xs → ¬ (OccursAt xs dots k)
no_dots xs k apart occurs =
    no_dots_in xs [] k apart (omega (arith, occurs.fits)) (rw append-nil occurs)

IsOneFamily-range : (first last : Addr) → IsRange first last → IsOneFamily first last
IsOneFamily-range (addr.V4 m) (addr.V4 n) h = tt
IsOneFamily-range (addr.V4 m) (addr.V6 n) h = h
IsOneFamily-range (addr.V6 m) (addr.V4 n) h = h
IsOneFamily-range (addr.V6 m) (addr.V6 n) h = tt

IsOneFamily-below : (first last : Addr) → IsBelow last first → IsOneFamily first last
IsOneFamily-below (addr.V4 m) (addr.V4 n) h = tt
IsOneFamily-below (addr.V4 m) (addr.V6 n) h = h
IsOneFamily-below (addr.V6 m) (addr.V4 n) h = h
IsOneFamily-below (addr.V6 m) (addr.V6 n) h = tt

-- a list that is cut where one or two bytes stand
cut_one : (text : List ℕ) (at b : ℕ) → at < length text → get_or text at 0 ≡ b → text ≡ take at text ++ b ∷ [] ++ drop (at + 1) text
cut_one text at b within here =
    sym (take-append-drop at text)
    ∙ ap (λ rest. take at text ++ rest) (drop-cons text at 0 within ∙ ap (λ c. c ∷ drop (suc at) text) here)
    ∙ rw add-one (sym (append_assoc (take at text) (b ∷ []) (drop (suc at) text)))

cut_two : (text : List ℕ) (at : ℕ) → OccursAt text dots at → text ≡ take at text ++ dots ++ drop (at + 2) text
cut_two text at occurs =
    let within : at < length text = omega (arith, occurs.fits) in
    let more : suc at < length text = omega (arith, occurs.fits) in
    let here : get_or text at 0 ≡ 46 = ap (λ i. get_or text i 0) (sym (add-zero at)) ∙ occurs.reads 0 (omega arith) in
    let next : get_or text (suc at) 0 ≡ 46 = ap (λ i. get_or text i 0) (sym (add-one at)) ∙ occurs.reads 1 (omega arith) in
    let two : at + 2 ≡ suc (suc at) = omega arith in
    sym (take-append-drop at text)
    ∙ ap (λ rest. take at text ++ rest) (drop-cons text at 0 within ∙ ap (λ c. c ∷ drop (suc at) text) here ∙ ap (λ rest. 46 ∷ rest) (drop-cons text (suc at) 0 more ∙ ap (λ c. c ∷ drop (suc (suc at)) text) next))
    ∙ rw two (sym (append_assoc (take at text) dots (drop (suc (suc at)) text)))

-- the first `..` stands after the first address
range_place : (left right : List ℕ) (at : ℕ) → HasDotsApart left → FindsNeedle (left ++ dots ++ right) dots 0 (Some at) → at ≡ length left
range_place left right at apart found =
    elim (cases_lt at (length left)) [
      | inl early ↦ absurd (no_dots_in left (dots ++ right) at apart early (rw append_assoc at found.1))
      | inr late ↦ elim (cases_lt (length left) at) [
        | inl later ↦ absurd (found.0.before (length left) (omega arith) later (between left dots right))
        | inr here ↦ omega arith
      ]
    ]

-- the parts of the text of a block
record BlockParts (text : List ℕ) (one : Addr) (bits : ℕ) : Type 0 where
  left : List ℕ
  digits : List ℕ
  spelled : text ≡ left ++ 47 ∷ [] ++ digits
  is_one : IsAddrText left one
  is_bits : bits_of digits ≡ Some bits

parts_of_block : (text : List ℕ) (one : Addr) (bits : ℕ) → IsBlockText text one bits → BlockParts text one bits
parts_of_block text one bits h = record {
  left = before_first is_slash text;
  digits = after_first is_slash text;
  spelled = block_splits text bits h.1 ∙ sym (append_assoc (before_first is_slash text) (47 ∷ []) (after_first is_slash text));
  is_one = h.0;
  is_bits = h.1;
}

no_slash_byte : (byte : ℕ) → byte ≢ 47 → not (is_slash byte) ≡ true
no_slash_byte byte h = grind (arith, nat_tests)

no_slashes : (bytes : List ℕ) → HasNoSlash bytes → list_all (λ byte. not (is_slash byte)) bytes ≡ true
no_slashes [] h = refl
no_slashes (byte ∷ bytes) h = and_from _ _ (no_slash_byte byte h.0) (no_slashes bytes h.1)

-- the text of a block has its dots apart
dots_of_block : (text : List ℕ) (base : Addr) (bits : ℕ) → IsBlockText text base bits → HasDotsApart text
dots_of_block text base bits h =
    let block = parts_of_block text base bits h in
    let left = (IsClean-address block.left base block.is_one).1 in
    let digits = HasDotsApart-digits block.digits (AllDigits-weaker block.digits (bits_digits block.digits bits block.is_bits).all) in
    let slash : HasDotsApart (47 ∷ []) = (λ dot. absurd (omega arith), tt) in
    rw block.spelled (HasDotsApart-append (block.left ++ 47 ∷ []) block.digits (HasDotsApart-append block.left (47 ∷ []) left slash) digits)

module _ (text : List ℕ) (at : ℕ) (found : FindsNeedle text dots 0 (Some at)) where
  same_sides : (first last : Addr) (h : IsRangeText text first last) → (take at text ≡ h.left) × (drop (at + 2) text ≡ h.right)
  same_sides first last h =
      let place : at ≡ length h.left = range_place h.left h.right at (IsClean-address h.left first h.is_first).1 (rw h.spelled at found) in
      let two : length (h.left ++ dots) ≡ at + 2 = rw length-append (omega arith) in (
        rw h.spelled (rw append_assoc (take_at h.left (dots ++ h.right) at (sym place))),
        rw h.spelled (drop_at (h.left ++ dots) h.right (at + 2) two),
      )

  -- what is read on both sides of `..` is read of the text
  pub Reads-range : (r : Result Item Flaw) → ReadsRange (take at text) (drop (at + 2) text) r → Reads text r
  Reads-range (Ok one) (first, last, is, is_first, is_last, range) =
      rw is (record {
        spelled = record {
          left = take at text;
          right = drop (at + 2) text;
          spelled = cut_two text at found.1;
          is_first = is_first;
          is_last = is_last;
          one_family = IsOneFamily-range first last range;
        };
        is_good = range;
      })
  Reads-range (Err flaw.Address) none = no_item
    where
      no_item : IsNoItemText text
      no_item (item.One (lit.Text t)) h = h
      no_item (item.One (lit.Num n)) h = h
      no_item (item.One (lit.Bool b)) h = h
      no_item (item.One (lit.Addr a)) h = no_dots text at (IsClean-address text a h).1 found.1
      no_item (item.Nums m n) h = h
      no_item (item.Addrs first last) h =
          let sides = same_sides first last h in
          none first last (rw sides.0 h.is_first) (rw sides.1 h.is_last) h.one_family
      no_item (item.Block base bits) h = no_dots text at (dots_of_block text base bits h) found.1
  Reads-range (Err flaw.Prefix) h = absurd h
  Reads-range (Err flaw.Backward) (first, last, is_first, is_last, below) = (
    first,
    last,
    record {
      left = take at text;
      right = drop (at + 2) text;
      spelled = cut_two text at found.1;
      is_first = is_first;
      is_last = is_last;
      one_family = IsOneFamily-below first last below;
    },
    below,
  )

-- a range has `..`
dots_of_range : (text : List ℕ) (first last : Addr) → IsRangeText text first last → ¬ (FindsNeedle text dots 0 None)
dots_of_range text first last h nowhere =
    let occurs : OccursAt text dots (length h.left) = rw h.spelled (between h.left dots h.right) in
    nowhere (length h.left) (omega arith) (omega (arith, occurs.fits)) occurs

-- a block has `/` after its address
slash_of_block : (text : List ℕ) (base : Addr) (bits : ℕ) (h : BlockParts text base bits) → (length h.left < length text) × (get_or text (length h.left) 0 ≡ 47)
slash_of_block text base bits h =
    let occurs : OccursAt text (47 ∷ []) (length h.left) = rw h.spelled (between h.left (47 ∷ []) h.digits) in
    (omega (arith, occurs.fits), ap (λ i. get_or text i 0) (sym (add-zero (length h.left))) ∙ occurs.reads 0 (omega arith))

module _ (text : List ℕ) (no_range : FindsNeedle text dots 0 None) where
  module _ (at : ℕ) (found : IsFirstByte (is_byte 47) text (Some at)) where
    slash : get_or text at 0 ≡ 47
    slash = eqb-true _ _ found.1

    same_parts : (base : Addr) (bits : ℕ) (h : BlockParts text base bits) → (take at text ≡ h.left) × (drop (at + 1) text ≡ h.digits)
    same_parts base bits h =
        let after = slash_of_block text base bits h in
        let clean = (IsClean-address h.left base h.is_one).0 in
        let place : at ≡ length h.left =
        elim (cases_lt at (length h.left)) [
          | inl early ↦
              let inside : get_or h.left at 0 ≡ 47 = sym (get_or_append_left h.left (47 ∷ [] ++ h.digits) 0 at early) ∙ rw (← append_assoc, ← h.spelled) slash in
              absurd (no_slash_at h.left at clean inside)
          | inr late ↦ elim (cases_lt (length h.left) at) [
            | inl later ↦ absurd (found.0.before (length h.left) (omega arith) later (eq-eqb _ _ after.1))
            | inr here ↦ omega arith
          ]
        ] in
        let one : length (h.left ++ 47 ∷ []) ≡ at + 1 = rw length-append (omega arith) in (
          rw h.spelled (rw append_assoc (take_at h.left (47 ∷ [] ++ h.digits) at (sym place))),
          rw h.spelled (drop_at (h.left ++ 47 ∷ []) h.digits (at + 1) one),
        )

    block_here : (base : Addr) (bits : ℕ) → IsAddrText (take at text) base → bits_of (drop (at + 1) text) ≡ Some bits → IsBlockText text base bits
    block_here base bits is_one is_bits =
        let cut : text ≡ take at text ++ 47 ∷ drop (at + 1) text = cut_one text at 47 found.0.high slash ∙ append_assoc (take at text) (47 ∷ []) (drop (at + 1) text) in
        subst (λ (t : List ℕ). IsBlockText t base bits) (sym cut)
        (block_joined (take at text) (drop (at + 1) text) base bits (no_slashes (take at text) (IsClean-address (take at text) base is_one).0) is_one is_bits)

    -- what is read on both sides of `/` is read of the text
    pub Reads-block : (r : Result Item Flaw) → ReadsBlock (take at text) (drop (at + 1) text) r → Reads text r
    Reads-block (Ok one) (base, bits, is, is_one, is_bits, within) =
        rw is (record { spelled = block_here base bits is_one is_bits; is_good = within })
    Reads-block (Err flaw.Address) none = no_item
      where
        no_item : IsNoItemText text
        no_item (item.One (lit.Text t)) h = h
        no_item (item.One (lit.Num n)) h = h
        no_item (item.One (lit.Bool b)) h = h
        no_item (item.One (lit.Addr a)) h = no_slash_at text at (IsClean-address text a h).0 slash
        no_item (item.Nums m n) h = h
        no_item (item.Addrs first last) h = dots_of_range text first last h no_range
        no_item (item.Block base bits) h =
            let block = parts_of_block text base bits h in
            let parts = same_parts base bits block in
            none base bits (rw parts.0 block.is_one) (rw parts.1 block.is_bits)
    Reads-block (Err flaw.Prefix) (base, bits, is_one, is_bits, over) = (base, bits, block_here base bits is_one is_bits, over)
    Reads-block (Err flaw.Backward) h = absurd h

  -- a text without `..` and `/` that is no address is no item
  pub IsNoItemText-alone : IsFirstByte (is_byte 47) text None → ((a : Addr) → ¬ (IsAddrText text a)) → IsNoItemText text
  IsNoItemText-alone no_slash none (item.One (lit.Text t)) h = h
  IsNoItemText-alone no_slash none (item.One (lit.Num n)) h = h
  IsNoItemText-alone no_slash none (item.One (lit.Bool b)) h = h
  IsNoItemText-alone no_slash none (item.One (lit.Addr a)) h = none a h
  IsNoItemText-alone no_slash none (item.Nums m n) h = h
  IsNoItemText-alone no_slash none (item.Addrs first last) h = dots_of_range text first last h no_range
  IsNoItemText-alone no_slash none (item.Block base bits) h =
      let block = parts_of_block text base bits h in
      let after = slash_of_block text base bits block in
      no_slash (length block.left) (omega arith) after.0 (eq-eqb _ _ after.1)

-- two cuts of one text at one place
same_cut : (text needle l r m s : List ℕ) → text ≡ l ++ needle ++ r → text ≡ m ++ needle ++ s → length l ≡ length m → (l ≡ m) × (r ≡ s)
same_cut text needle l r m s e f same = (
  sym (take_at l (needle ++ r) (length l) refl) ∙ ap (λ t. take (length l) t) (sym (append_assoc l needle r) ∙ sym e ∙ f ∙ append_assoc m needle s) ∙ take_at m (needle ++ s) (length l) (sym same),
  sym (drop_at (l ++ needle) r (length (l ++ needle)) refl) ∙ ap (λ t. drop (length (l ++ needle)) t) (sym e ∙ f) ∙ drop_at (m ++ needle) s (length (l ++ needle)) (rw (length-append, length-append) (omega arith)),
)

dots_least : (text l r m s : List ℕ) → text ≡ l ++ dots ++ r → text ≡ m ++ dots ++ s → HasDotsApart m → length m ≤ length l
dots_least text l r m s e f apart =
    elim (cases_lt (length l) (length m)) [
      | inl shorter ↦ absurd (no_dots_in m (dots ++ s) (length l) apart shorter (subst (λ t. OccursAt t dots (length l)) (sym e ∙ f ∙ append_assoc m dots s) (between l dots r)))
      | inr fine ↦ fine
    ]

slash_least : (text l r m s : List ℕ) → text ≡ l ++ 47 ∷ [] ++ r → text ≡ m ++ 47 ∷ [] ++ s → HasNoSlash m → length m ≤ length l
slash_least text l r m s e f none =
    elim (cases_lt (length l) (length m)) [
      | inl shorter ↦
          let slash : OccursAt (m ++ (47 ∷ [] ++ s)) (47 ∷ []) (length l) = subst (λ t. OccursAt t (47 ∷ []) (length l)) (sym e ∙ f ∙ append_assoc m (47 ∷ []) s) (between l (47 ∷ []) r) in
          let here = sym (get_or_append_left m (47 ∷ [] ++ s) 0 (length l) shorter) ∙ ap (λ i. get_or (m ++ (47 ∷ [] ++ s)) i 0) (sym (add-zero (length l))) ∙ slash.reads 0 (omega arith) in
          absurd (no_slash_at m (length l) none here)
      | inr fine ↦ fine
    ]

range_unique : (text : List ℕ) (a b c d : Addr) → IsRangeText text a b → IsRangeText text c d → (a ≡ c) × (b ≡ d)
range_unique text a b c d h k =
    let one = dots_least text h.left h.right k.left k.right h.spelled k.spelled (IsClean-address k.left c k.is_first).1 in
    let two = dots_least text k.left k.right h.left h.right k.spelled h.spelled (IsClean-address h.left a h.is_first).1 in
    let same = same_cut text dots h.left h.right k.left k.right h.spelled k.spelled (omega arith) in (
      IsAddrText-unique k.left a c (subst (λ t. IsAddrText t a) same.0 h.is_first) k.is_first,
      IsAddrText-unique k.right b d (subst (λ t. IsAddrText t b) same.1 h.is_last) k.is_last,
    )

block_unique : (text : List ℕ) (a b : Addr) (m n : ℕ) → IsBlockText text a m → IsBlockText text b n → (a ≡ b) × (m ≡ n)
block_unique text a b m n is_first is_second =
    let h = parts_of_block text a m is_first in
    let k = parts_of_block text b n is_second in
    let one = slash_least text h.left h.digits k.left k.digits h.spelled k.spelled (IsClean-address k.left b k.is_one).0 in
    let two = slash_least text k.left k.digits h.left h.digits k.spelled h.spelled (IsClean-address h.left a h.is_one).0 in
    let same = same_cut text (47 ∷ []) h.left h.digits k.left k.digits h.spelled k.spelled (omega arith) in (
      IsAddrText-unique k.left a b (subst (λ t. IsAddrText t a) same.0 h.is_one) k.is_one,
      (let both : Some m ≡ Some n = sym h.is_bits ∙ ap bits_of same.1 ∙ k.is_bits in cc),
    )

no_dots_of_range : (text : List ℕ) (first last : Addr) → IsRangeText text first last → ¬ (HasDotsApart text)
no_dots_of_range text first last h apart =
    let occurs : OccursAt text dots (length h.left) = rw h.spelled (between h.left dots h.right) in
    no_dots text (length h.left) apart occurs

-- how a text that stands for an item is read, whatever the item
address_is : (text : List ℕ) (a : Addr) (one : Item) → IsAddrText text a → IsItemText text one → item.One (lit.Addr a) ≡ one
address_is text a (item.One (lit.Text t)) h k = absurd k
address_is text a (item.One (lit.Num n)) h k = absurd k
address_is text a (item.One (lit.Bool b)) h k = absurd k
address_is text a (item.One (lit.Addr b)) h k = ap (λ x. item.One (lit.Addr x)) (IsAddrText-unique text a b h k)
address_is text a (item.Nums m n) h k = absurd k
address_is text a (item.Addrs first last) h k = absurd (no_dots_of_range text first last k (IsClean-address text a h).1)
address_is text a (item.Block base bits) h k = (let block = parts_of_block text base bits k in absurd (no_slash_at text (length block.left) (IsClean-address text a h).0 (slash_of_block text base bits block).1))

range_is : (text : List ℕ) (a b : Addr) (one : Item) → IsRangeText text a b → IsItemText text one → item.Addrs a b ≡ one
range_is text a b (item.One (lit.Text t)) h k = absurd k
range_is text a b (item.One (lit.Num n)) h k = absurd k
range_is text a b (item.One (lit.Bool t)) h k = absurd k
range_is text a b (item.One (lit.Addr c)) h k = absurd (no_dots_of_range text a b h (IsClean-address text c k).1)
range_is text a b (item.Nums m n) h k = absurd k
range_is text a b (item.Addrs c d) h k =
    let same = range_unique text a b c d h k in
    ap (λ x. item.Addrs x b) same.0 ∙ ap (λ x. item.Addrs c x) same.1
range_is text a b (item.Block base bits) h k = absurd (no_dots_of_range text a b h (dots_of_block text base bits k))

block_is : (text : List ℕ) (a : Addr) (m : ℕ) (one : Item) → IsBlockText text a m → IsItemText text one → item.Block a m ≡ one
block_is text a m (item.One (lit.Text t)) h k = absurd k
block_is text a m (item.One (lit.Num n)) h k = absurd k
block_is text a m (item.One (lit.Bool b)) h k = absurd k
block_is text a m (item.One (lit.Addr b)) h k = (let block = parts_of_block text a m h in absurd (no_slash_at text (length block.left) (IsClean-address text b k).0 (slash_of_block text a m block).1))
block_is text a m (item.Nums x y) h k = absurd k
block_is text a m (item.Addrs c d) h k = absurd (no_dots_of_range text c d k (dots_of_block text a m h))
block_is text a m (item.Block b n) h k =
    let same = block_unique text a b m n h k in
    ap (λ x. item.Block x m) same.0 ∙ ap (λ x. item.Block b x) same.1

pub IsItemText-unique : ItemIsUnique
IsItemText-unique text (item.One (lit.Text t)) b h k = absurd h
IsItemText-unique text (item.One (lit.Num n)) b h k = absurd h
IsItemText-unique text (item.One (lit.Bool t)) b h k = absurd h
IsItemText-unique text (item.One (lit.Addr a)) b h k = address_is text a b h k
IsItemText-unique text (item.Nums m n) b h k = absurd h
IsItemText-unique text (item.Addrs first last) b h k = range_is text first last b h k
IsItemText-unique text (item.Block base bits) b h k = block_is text base bits b h k

-- a text with a fault stands for no item that holds addresses
pub IsRefused-no_item : (text : List ℕ) → IsNoItemText text → IsRefused text
IsRefused-no_item text none one good = none one good.spelled

pub IsRefused-long_prefix : (text : List ℕ) → IsLongPrefix text → IsRefused text
IsRefused-long_prefix text (base, bits, block, over) one good =
    let same = block_is text base bits one block good.spelled in
    let within : bits ≤ width_of base = subst IsAddrItem (sym same) good.is_good in
    omega arith

not_both : (first last : Addr) → IsRange first last → ¬ (IsBelow last first)
not_both (addr.V4 m) (addr.V4 n) h k = omega arith
not_both (addr.V4 m) (addr.V6 n) h k = h
not_both (addr.V6 m) (addr.V4 n) h k = h
not_both (addr.V6 m) (addr.V6 n) h k = omega arith

pub IsRefused-backward : (text : List ℕ) → IsBackward text → IsRefused text
IsRefused-backward text (first, last, range, below) one good =
    let same = range_is text first last one range good.spelled in
    not_both first last (subst IsAddrItem (sym same) good.is_good) below

-- a reading that succeeds gives an item, and one that doesn't tells that there is none
pub reading_is_ok : (text : List ℕ) (r : Result Item Flaw) → Reads text r → MatchBool (is_ok r) ((one : Item) × IsGoodText text one) (IsRefused text)
reading_is_ok text (Ok one) good = (one, good)
reading_is_ok text (Err flaw.Address) none = IsRefused-no_item text none
reading_is_ok text (Err flaw.Prefix) long = IsRefused-long_prefix text long
reading_is_ok text (Err flaw.Backward) back = IsRefused-backward text back
