-- Each kind of step keeps the rule.
use Rattle.std.proofs.Common.{◌≡◌, ◌≢◌, ◌⊎◌, ℕ, zero, suc, ◌+◌, ◌-◌, ◌*◌, ◌%◌, ◌^◌, ◌<◌, ◌≤◌, eqb, List, [], ◌∷◌, ◌++◌, All, MatchBool, length, replicate, get_or, set, refl, sym, ap, ◌∙◌, subst, inl, inr, ⊎_elim, le_refl, mod-eq_of_lt, eq-eqb, ne_eqb, length-set, get_or-set_other, get_or-set_same, arith, Option, Some, None}
use mathlib.Core.Logic.{dite}
use mathlib.Core.List.{IsPrefix}
use mathlib.Core.Option.{none, some}
use mathlib.Core.Option as maybe
use native.Mathlib.Decide.{ℕ_discrete}
use lib.ListN.{get_elem?, length-map, length-replicate, get_or-replicate}
use lib.Seq.{set-get_or}
use prog.Atomic.{either}
use Rattle.std.proofs.lemmas.List.{length_push}
use Rattle.std.proofs.lemmas.List.Elements.{All-nil, All-cons, All-push, All-weaker}
use Rattle.atomic_table.specs.Table.{State, Me, step, Act, keeps, takes, gives, stepped, Allows, Splits, Joins, opening}
use Rattle.atomic_table.proofs.Lists.{set_here, set_else, set_again, at_map, at_index}
use Rattle.rate_plain.specs.Keys.{lane_of_key}
use Rattle.rate_plain.specs.Window.{entries_in, moment_of, answer_of}
use Rattle.rate_plain.specs.History.{Follows, IsLegal, own_of, entry_of, ask_of}
use Rattle.rate_plain.specs.declared.entry.Ask.{Ask}
use Rattle.rate_plain.specs.declared.entry.Entry.{Entry}
use Rattle.rate_plain.proofs.LaneLemmas.{moment_of-alone, answer_of-alone}
use Rattle.rate_plain.proofs.LegalLemmas.{legal_none, legal_more}
use Rattle.rate_lane.specs.Lane.{cap_of, IsLaneOf}
use Rattle.rate_lane.specs.Lanes.{IsLaneAt}
use Rattle.rate_lane.specs.declared.lane.Lane.{Lane}
use Rattle.rate_shared.specs.declared.rule.Shape.{Shape}
use Rattle.rate_shared.specs.declared.rule.Known.{Known}
use Rattle.rate_shared.specs.declared.rule.View.{View}
use Rattle.rate_shared.specs.Rule.{turn_word, lane_slot, knowing, maker, nobody, IsKnown, HasTurn, Knows, IsHome, IsKept}
use Rattle.rate_shared.specs.Steps.{Sat, Shows, turned, seeing, drawn, IsInHand, TakesLane, Takes, Draws, Gives, Looks, without_number, numbered, note_of, met}
use Rattle.rate_shared.specs.Hands.{IsNew}
use Rattle.rate_shared.proofs.Seats.{prefix_self, prefix_longer, moved, moved_in, moved_kept, each_set, at_first, at_end, known_stays, knows_on}
use Rattle.rate_shared.proofs.Counting.{own_with, own_without, lane_with, lane_without, history_fits}

abbrev St : Type 0
St = State (Option Lane) View

blank : (n i : ℕ) → ◌≡◌ {A = ℕ} (get_or (replicate n 0) i 0) 0
blank zero i = refl
blank (suc n) zero = refl
blank (suc n) (suc i) = blank n i

at_default : (l : List (Option Lane)) (i : ℕ) (d : Option Lane) → i < length l → get_elem? l i ≡ some (get_or l i d)
at_default [] i d h = absurd (omega arith)
at_default (x ∷ xs) zero d h = refl
at_default (x ∷ xs) (suc i) d h = at_default xs i d (omega arith)

-- a table of lanes without steps
pub starts : (shape : Shape) (slots : List (Option Lane)) → length slots ≡ shape.lanes → shape.callers ≤ 1024 → All (IsNew shape.cap) slots
    → IsKept shape (opening (replicate (shape.lanes + 1) 0) slots (maker shape))
starts shape slots count few each = record {
  history = [];
  holder = λ _. 0;
  owner = λ _. 0;
  wide = length-replicate (shape.lanes + 1) 0;
  deep = length-map slots (λ (x : Option Lane). some x) ∙ count;
  callers = few;
  long = blank (shape.lanes + 1) 0;
  legal = legal_none shape.lanes shape.cap;
  by_callers = All-nil (λ (entry : Entry). entry.caller < shape.callers);
  room = λ k. omega arith;
  home = λ lane within _.
      let near : lane < length slots = omega (arith, count) in
      let is = each lane None near in
      let there : get_elem? slots lane ≡ some (Some is.0) = at_default slots lane None near ∙ ap (λ (x : Option Lane). some x) is.1 in
      (is.0, at_map (λ (x : Option Lane). some x) slots lane (Some is.0) there, record { room = is.2; own = is.3 });
  each = λ seat v at. let t = at_first (maker shape) v seat at in
      subst (λ (x : ℕ × View). Knows shape (replicate (shape.lanes + 1) 0) (λ _. 0) (λ _. 0) [] x.0 x.1) (λ i. (sym t.0 i, t.1 i)) first;
}
  where
    first : Knows shape (replicate (shape.lanes + 1) 0) (λ _. 0) (λ _. 0) [] 0 (maker shape)
    first = record {
      shape_is = λ _. refl;
      known = record { seen = ([], refl); owned = λ _ _ _. (refl, refl); within = le_refl shape.callers };
      kept = All-nil (IsKnown shape (λ _. 0) 0 []);
      turn = λ lane is. absurd (omega arith);
    }

module _ (shape : Shape) (s : St) (r : IsKept shape s) where
  -- a lane whose turn word a step doesn't touch is at home as before
  other_home : (words' : List ℕ) (homes' : List (maybe.Option (Option Lane))) (history' : List Entry) (lane : ℕ)
      → get_or words' (turn_word lane) 0 ≡ get_or s.words (turn_word lane) 0 → get_elem? homes' lane ≡ get_elem? s.homes lane
      → entries_in shape.lanes lane history' ≡ entries_in shape.lanes lane r.history
      → lane < shape.lanes → get_or words' (turn_word lane) 0 ≡ 0 → IsHome shape homes' history' lane
  other_home words' homes' history' lane same here list within free =
      let was = r.home lane within (sym same ∙ free) in
      (was.0, here ∙ was.1, record { room = was.2.room; own = subst (IsLaneOf was.0) (sym list) was.2.own })

  -- only what the seats know changes, and which seat has which number
  views_change : (owner' : ℕ → ℕ) (views' : List View) → ((j : ℕ) (d : View) → get_elem? views' j ≡ some d → Knows shape s.words r.holder owner' r.history j d)
      → IsKept shape record { words = s.words; homes = s.homes; views = views' }
  views_change owner' views' each = record {
    history = r.history;
    holder = r.holder;
    owner = owner';
    wide = r.wide;
    deep = r.deep;
    callers = r.callers;
    long = r.long;
    legal = r.legal;
    by_callers = r.by_callers;
    room = r.room;
    home = r.home;
    each = each;
  }

  -- a load, which changes the view of one seat
  loads : (i id : ℕ) (w : View) → Knows shape s.words r.holder r.owner r.history id w → IsKept shape record { words = set s.words i (get_or s.words i 0); homes = s.homes; views = set s.views id w }
  loads i id w knows = subst (λ (ws : List ℕ). IsKept shape record { words = ws; homes = s.homes; views = set s.views id w }) (sym (set-get_or s.words i 0))
      (views_change r.owner (set s.views id w) (each_set (Knows shape s.words r.holder r.owner r.history) s.views id w knows (λ j d _ at. r.each j d at)))

  -- the turn word of a lane changes, and its slot, by the step of one seat
  module _ (id lane turn : ℕ) (slot : maybe.Option (Option Lane)) (holder' : ℕ → ℕ) (w : View) where
    turn_changes : (get_or (set s.words (turn_word lane) turn) (turn_word lane) 0 ≡ 0 → IsHome shape (set s.homes lane slot) r.history lane)
        → Knows shape (set s.words (turn_word lane) turn) holder' r.owner r.history id w
        → ((j l : ℕ) → j ≢ id → r.holder l ≡ j → get_or s.words (turn_word l) 0 ≡ 1 → (l ≢ lane) × (holder' l ≡ j))
        → IsKept shape record { words = set s.words (turn_word lane) turn; homes = set s.homes lane slot; views = set s.views id w }
    turn_changes here mine apart = record {
      history = r.history;
      holder = holder';
      owner = r.owner;
      wide = length-set s.words (turn_word lane) turn ∙ r.wide;
      deep = length-set s.homes lane slot ∙ r.deep;
      callers = r.callers;
      long = get_or-set_other s.words (turn_word lane) 0 turn 0 (λ e. omega arith) ∙ r.long;
      legal = r.legal;
      by_callers = r.by_callers;
      room = r.room;
      home = λ l inside free. dite (ℕ_discrete l lane)
          (λ same. subst (IsHome shape homes' r.history) (sym same) (here (subst (λ (n : ℕ). get_or words' (turn_word n) 0 ≡ 0) same free)))
          (λ away. other_home words' homes' r.history l (beside l away) (set_else s.homes lane l slot away) refl inside free);
      each = each_set (Knows shape words' holder' r.owner r.history) s.views id w mine others;
    }
      where
        words' : List ℕ
        words' = set s.words (turn_word lane) turn

        homes' : List (maybe.Option (Option Lane))
        homes' = set s.homes lane slot

        beside : (l : ℕ) → l ≢ lane → get_or words' (turn_word l) 0 ≡ get_or s.words (turn_word l) 0
        beside l away = get_or-set_other s.words (turn_word lane) (turn_word l) turn 0 (λ e. away (omega arith))

        others : (j : ℕ) (d : View) → j ≢ id → get_elem? s.views j ≡ some d → Knows shape words' holder' r.owner r.history j d
        others j d other there =
            knows_on shape r.owner r.owner j r.history r.history (prefix_self r.history) s.words words' r.holder holder' d (λ k has. (has, refl))
            (λ l inside held taken. let is = apart j l other held taken in (beside l is.0 ∙ taken, is.1, refl))
            (r.each j d there)

-- the first number of a seat goes to a new one
pub splits_number : (shape : Shape) (id : ℕ) (v : View) → v.known.from < v.known.to → v.kept ≡ [] → Splits (IsKept shape) id v (without_number v) (numbered v)
splits_number shape id v some_left none_kept s r at =
    views_change shape s r owner' (set s.views id (without_number v) ++ numbered v ∷ []) (λ j d there. ⊎_elim (each_set K s.views id (without_number v) left others j d)
    (λ (t : (j ≡ new) × (numbered v ≡ d)). subst (λ (x : ℕ × View). K x.0 x.1) (λ i. (sym t.0 i, t.1 i)) right)
    (at_end (set s.views id (without_number v)) (numbered v) d j there))
  where
    new : ℕ
    new = length (set s.views id (without_number v))

    owner' : ℕ → ℕ
    owner' = moved v.known.from (v.known.from + 1) new r.owner

    K : ℕ → View → Type 0
    K = Knows shape s.words r.holder owner' r.history

    was : Knows shape s.words r.holder r.owner r.history id v
    was = r.each id v at

    left : K id (without_number v)
    left = record {
      shape_is = was.shape_is;
      known = record {
        seen = was.known.seen;
        owned = λ k low high. let has = was.known.owned k (omega arith) high in
            (moved_kept v.known.from (v.known.from + 1) new r.owner k id has.0 (λ _ above. absurd (omega arith)), has.1);
        within = was.known.within;
      };
      kept = subst (All (IsKnown shape owner' id r.history)) (sym none_kept) (All-nil (IsKnown shape owner' id r.history));
      turn = was.turn;
    }

    others : (j : ℕ) (d : View) → j ≢ id → get_elem? s.views j ≡ some d → K j d
    others j d other there =
        knows_on shape r.owner owner' j r.history r.history (prefix_self r.history) s.words s.words r.holder r.holder d
        (λ k has. (
          moved_kept v.known.from (v.known.from + 1) new r.owner k j has
              (λ low high. absurd (other (sym has ∙ (was.known.owned k low (omega arith)).0))),
          refl,
        ))
        (λ lane _ held taken. (taken, held, refl)) (r.each j d there)

    right : K new (numbered v)
    right = record {
      shape_is = was.shape_is;
      known = record {
        seen = was.known.seen;
        owned = λ k low high. (moved_in v.known.from (v.known.from + 1) new r.owner k low high, (was.known.owned k low (omega arith)).1);
        within = omega (arith, was.known.within);
      };
      kept = All-nil (IsKnown shape owner' new r.history);
      turn = λ lane is. absurd (omega arith);
    }

-- what was seen goes to a new seat
pub splits_note : (shape : Shape) (id : ℕ) (v : View) → Splits (IsKept shape) id v v (note_of v)
splits_note shape id v s r at =
    views_change shape s r r.owner (set s.views id v ++ note_of v ∷ []) (λ j d there. ⊎_elim (each_set K s.views id v was (λ i x _ h. r.each i x h) j d)
    (λ (t : (j ≡ length (set s.views id v)) × (note_of v ≡ d)). subst (λ (z : View). K j z) t.1 (right j))
    (at_end (set s.views id v) (note_of v) d j there))
  where
    K : ℕ → View → Type 0
    K = Knows shape s.words r.holder r.owner r.history

    was : K id v
    was = r.each id v at

    right : (j : ℕ) → K j (note_of v)
    right j = record {
      shape_is = was.shape_is;
      known = record { seen = was.known.seen; owned = λ k low high. absurd (omega arith); within = omega arith };
      kept = All-nil (IsKnown shape r.owner j r.history);
      turn = λ lane is. absurd (omega arith);
    }

-- a seat takes in what another knew
pub joins_seats : (shape : Shape) (id : ℕ) (v : View) (other : ℕ) (w : View) → Joins (IsKept shape) id v other w (met v w) nobody
joins_seats shape id v other w s r at apart there =
    views_change shape s r owner' (set (set s.views id (met v w)) other nobody)
    (each_set K (set s.views id (met v w)) other nobody spent (λ j d off here. each_set (λ i x. i ≢ other → K i x) s.views id (met v w) (λ _. both) (λ i x away h off'. others i x away off' h) j d here off))
  where
    owner' : ℕ → ℕ
    owner' = moved w.known.from w.known.to id r.owner

    K : ℕ → View → Type 0
    K = Knows shape s.words r.holder owner' r.history

    was : Knows shape s.words r.holder r.owner r.history id v
    was = r.each id v at

    its : Knows shape s.words r.holder r.owner r.history other w
    its = r.each other w (sym (set_else s.views id other (met v w) apart) ∙ there)

    mine : (k : ℕ) → r.owner k ≡ id → owner' k ≡ id
    mine k has = moved_kept w.known.from w.known.to id r.owner k id has (λ _ _. refl)

    both : K id (met v w)
    both = record {
      shape_is = was.shape_is;
      known = known_stays shape r.owner owner' id r.history r.history (prefix_self r.history) v.known (λ k _ _ has. (mine k has, refl)) was.known;
      kept = All-cons (IsKnown shape owner' id r.history) w.known v.kept
          record {
            seen = its.known.seen;
            owned = λ k low high. (moved_in w.known.from w.known.to id r.owner k low high, (its.known.owned k low high).1);
            within = its.known.within;
          }
          (All-weaker (IsKnown shape r.owner id r.history) (IsKnown shape owner' id r.history)
          (λ x h. known_stays shape r.owner owner' id r.history r.history (prefix_self r.history) x (λ k _ _ has. (mine k has, refl)) h) v.kept was.kept);
      turn = was.turn;
    }

    spent : K other nobody
    spent = record {
      shape_is = λ z. absurd (omega arith);
      known = record { seen = (r.history, refl); owned = λ k low high. absurd (omega arith); within = omega arith };
      kept = All-nil (IsKnown shape owner' other r.history);
      turn = λ lane is. absurd (omega arith);
    }

    others : (j : ℕ) (d : View) → j ≢ id → j ≢ other → get_elem? s.views j ≡ some d → K j d
    others j d away off here =
        knows_on shape r.owner owner' j r.history r.history (prefix_self r.history) s.words s.words r.holder r.holder d
        (λ k has. (
          moved_kept w.known.from w.known.to id r.owner k j has
              (λ low high. absurd (off (sym has ∙ (its.known.owned k low high).0))),
          refl,
        ))
        (λ lane _ held taken. (taken, held, refl)) (r.each j d here)

-- the turn of a lane is taken
takes_free : (shape : Shape) (s : St) (r : IsKept shape s) (id lane : ℕ) (v : View) → get_elem? s.views id ≡ some v → lane < shape.lanes → get_or s.words (turn_word lane) 0 ≡ 0
    → IsKept shape record { words = set s.words (turn_word lane) 1; homes = set s.homes lane none; views = set s.views id (turned v (turn_word lane) (entries_in shape.lanes lane r.history)) }
takes_free shape s r id lane v at within free =
    turn_changes shape s r id lane 1 none holder' w (λ zero_now. absurd (one_not (get_or words' (turn_word lane) 0) now zero_now)) mine
    (λ j l other held taken.
    let away : l ≢ lane = λ e. one_not (get_or s.words (turn_word l) 0) taken (ap (λ (n : ℕ). get_or s.words (turn_word n) 0) e ∙ free) in
    (away, moved_kept lane (lane + 1) id r.holder l j held (λ low high. absurd (away (omega arith)))))
  where
    words' : List ℕ
    words' = set s.words (turn_word lane) 1

    w : View
    w = turned v (turn_word lane) (entries_in shape.lanes lane r.history)

    holder' : ℕ → ℕ
    holder' = moved lane (lane + 1) id r.holder

    one_not : (a : ℕ) → a ≡ 1 → a ≡ 0 → ⊥
    one_not a is not = omega arith

    now : get_or words' (turn_word lane) 0 ≡ 1
    now = get_or-set_same s.words (turn_word lane) 1 0 (omega (arith, r.wide))

    was : Knows shape s.words r.holder r.owner r.history id v
    was = r.each id v at

    mine : Knows shape words' holder' r.owner r.history id w
    mine = record {
      shape_is = was.shape_is;
      known = was.known;
      kept = was.kept;
      turn = λ l is. let same : lane ≡ l = omega arith in record {
        within = subst (λ (n : ℕ). n < shape.lanes) same within;
        taken = ap (λ (n : ℕ). get_or words' (turn_word n) 0) (sym same) ∙ now;
        held = moved_in lane (lane + 1) id r.holder l (omega arith) (omega arith);
        list = ap (λ (n : ℕ). entries_in shape.lanes n r.history) same;
      };
    }

pub takes_turn : (shape : Shape) (slots id : ℕ) (me : Sat) (lane : ℕ) → lane < slots → 0 < me.0.shape.lanes
    → Allows (IsKept shape) slots id me (turn_word lane) (λ n. either (eqb n 0) 1 n) (Takes (step slots (turn_word lane) 0 1 none) me)
takes_turn shape slots id me lane near some_lane s r deep at _ =
    let x : ℕ = get_or s.words (turn_word lane) 0 in
    let within : lane < shape.lanes = omega (arith, deep, r.deep) in
    let back : lane ≡ turn_word lane - 1 = omega arith in
    let list : List Entry = entries_in shape.lanes lane r.history in
    let was = r.each id me.0 at in
    let is = was.shape_is some_lane in
    dite (ℕ_discrete x 0)
    (λ hit.
    let home = r.home lane within hit in
    let w : View = turned me.0 (turn_word lane) list in
    let room : cap_of home.0 ≡ me.0.shape.cap = home.2.room ∙ ap (λ (z : Shape). z.cap) (sym is) in (
      w,
      takes lane (Some home.0),
      home.1,
      subst (λ b. IsKept shape (stepped s (turn_word lane) (either b 1 x) id me.1 w (takes lane (Some home.0)))) (sym (eq-eqb x 0 hit)) (takes_free shape s r id lane me.0 at within hit),
      subst (λ b. MatchBool b (TakesLane (turn_word lane - 1) me (w, (lane, Some home.0) ∷ me.1)) ((w, (lane, Some home.0) ∷ me.1) ≡ me)) (sym (eq-eqb x 0 hit))
          (subst (λ l. TakesLane l me (w, (lane, Some home.0) ∷ me.1)) back (home.0, list, refl, (room, home.2.own))),
    ))
    (λ miss. (
      me.0,
      keeps,
      tt,
      subst (λ b. IsKept shape (stepped s (turn_word lane) (either b 1 x) id me.1 me.0 keeps)) (sym (ne_eqb x 0 miss)) (loads shape s r (turn_word lane) id me.0 was),
      subst (λ b. MatchBool b (TakesLane (turn_word lane - 1) me me) (me ≡ me)) (sym (ne_eqb x 0 miss)) refl,
    ))

-- the whole history is seen
pub looks_up : (shape : Shape) (slots id : ℕ) (me : Sat) → 0 < me.0.shape.lanes → Allows (IsKept shape) slots id me 0 (λ n. n) (Looks (step slots 0 0 0 none) me)
looks_up shape slots id me some_lane s r deep at _ =
    let was = r.each id me.0 at in
    let is = was.shape_is some_lane in (
      seeing me.0 r.history,
      keeps,
      tt,
      loads shape s r 0 id (seeing me.0 r.history) record {
        shape_is = was.shape_is;
        known = record { seen = prefix_self r.history; owned = λ k low high. ((was.known.owned k low high).0, refl); within = was.known.within };
        kept = All-nil (IsKnown shape r.owner id r.history);
        turn = was.turn;
      },
      (
        r.history,
        refl,
        subst (λ (z : Shape). Shows z r.history me.0.known) (sym is) (shows me.0.known was.known),
        subst (λ (z : Shape). All (Shows z r.history) me.0.kept) (sym is) (All-weaker (IsKnown shape r.owner id r.history) (Shows shape r.history) shows me.0.kept was.kept),
        sym r.long,
        subst (λ (z : Shape). All (λ entry. entry.caller < z.callers) r.history) (sym is) r.by_callers,
      ),
    )
  where
    shows : (known : Known) → IsKnown shape r.owner id r.history known → Shows shape r.history known
    shows known h = record { seen = h.seen; legal = r.legal; own = λ k low high. (h.owned k low high).1 }

module _ (shape : Shape) (s : St) (r : IsKept shape s) (id lane : ℕ) (v : View) (at : get_elem? s.views id ≡ some v) (turn : v.turn ≡ turn_word lane) where
  -- the turn of a lane is given back, and the lane comes home
  gives_back : (x : Lane) → IsLaneAt x shape.lanes shape.cap r.history lane
      → IsKept shape record { words = set s.words (turn_word lane) 0; homes = set s.homes lane (some (Some x)); views = set s.views id (turned v 0 []) }
  gives_back x stands =
      turn_changes shape s r id lane 0 (some (Some x)) r.holder (turned v 0 [])
      (λ _. (x, set_here s.homes lane (some (Some x)) (omega (arith, r.deep, (was.turn lane turn).within)), stands))
      record { shape_is = was.shape_is; known = was.known; kept = was.kept; turn = λ l is. absurd (omega arith) }
      (λ j l other held taken. (λ e. other (sym held ∙ (ap r.holder e ∙ (was.turn lane turn).held)), held))
    where
      was : Knows shape s.words r.holder r.owner r.history id v
      was = r.each id v at

  -- an entry of the lane is added
  adds_entry : (entry : Entry) → lane_of_key shape.lanes entry.key ≡ lane → v.known.from ≤ entry.caller → entry.caller < v.known.to → v.kept ≡ []
      → length (own_of v.known.seen entry.caller) < 2 ^ 40 → Follows shape.lanes shape.cap r.history entry
      → IsKept shape record { words = set s.words 0 (length (r.history ++ entry ∷ [])); homes = s.homes; views = set s.views id (drawn v r.history entry) }
  adds_entry entry of_lane low high none_kept room follows = record {
    history = history';
    holder = r.holder;
    owner = r.owner;
    wide = length-set s.words 0 (length history') ∙ r.wide;
    deep = r.deep;
    callers = r.callers;
    long = get_or-set_same s.words 0 (length history') 0 (omega (arith, r.wide));
    legal = legal_more shape.lanes shape.cap r.history entry r.legal follows;
    by_callers = All-push (λ (e : Entry). e.caller < shape.callers) r.history entry r.by_callers (omega (arith, was.known.within));
    room = λ k. dite (ℕ_discrete entry.caller k)
        (λ same.
        let grown : length (own_of history' k) ≡ length (own_of r.history k) + 1 = ap length (own_with r.history entry k same) ∙ length_push (own_of r.history k) entry in
        let own : length (own_of r.history k) ≡ length (own_of v.known.seen entry.caller) = ap (λ n. length (own_of r.history n)) (sym same) ∙ ap length (was.known.owned entry.caller low high).1 in
        omega (arith, grown, own))
        (λ other. subst (λ (es : List Entry). length es ≤ 1099511627776) (sym (own_without r.history entry k other)) (r.room k));
    home = λ l inside zero_now.
        let away : l ≢ lane = λ e. one_not (get_or s.words (turn_word l) 0) (ap (λ (n : ℕ). get_or s.words (turn_word n) 0) e ∙ turn_is.taken) (sym (beside l) ∙ zero_now) in
        other_home shape s r words' s.homes history' l (beside l) refl (apart l away) inside zero_now;
    each = each_set K s.views id (drawn v r.history entry) mine others;
  }
    where
      history' : List Entry
      history' = r.history ++ entry ∷ []

      words' : List ℕ
      words' = set s.words 0 (length history')

      K : ℕ → View → Type 0
      K = Knows shape words' r.holder r.owner history'

      longer : IsPrefix r.history history'
      longer = (entry ∷ [], refl)

      was : Knows shape s.words r.holder r.owner r.history id v
      was = r.each id v at

      turn_is : HasTurn shape s.words r.holder id r.history v.mine lane
      turn_is = was.turn lane turn

      one_not : (a : ℕ) → a ≡ 1 → a ≡ 0 → ⊥
      one_not a is not = omega arith

      beside : (l : ℕ) → get_or words' (turn_word l) 0 ≡ get_or s.words (turn_word l) 0
      beside l = get_or-set_other s.words 0 (turn_word l) (length history') 0 (λ e. omega arith)

      apart : (l : ℕ) → l ≢ lane → entries_in shape.lanes l history' ≡ entries_in shape.lanes l r.history
      apart l away = lane_without shape.lanes l r.history entry (λ e. away (sym e ∙ of_lane))

      mine : K id (drawn v r.history entry)
      mine = record {
        shape_is = was.shape_is;
        known = record { seen = prefix_self history'; owned = λ k a b. ((was.known.owned k a b).0, refl); within = was.known.within };
        kept = subst (All (IsKnown shape r.owner id history')) (sym none_kept) (All-nil (IsKnown shape r.owner id history'));
        turn = λ l is. let same : lane ≡ l = omega (arith, turn) in subst (HasTurn shape words' r.holder id history' (v.mine ++ entry ∷ [])) same record {
          within = turn_is.within;
          taken = beside lane ∙ turn_is.taken;
          held = turn_is.held;
          list = ap (λ es. es ++ entry ∷ []) turn_is.list ∙ sym (lane_with shape.lanes lane r.history entry of_lane);
        };
      }

      others : (j : ℕ) (d : View) → j ≢ id → get_elem? s.views j ≡ some d → K j d
      others j d other there =
          knows_on shape r.owner r.owner j r.history history' longer s.words words' r.holder r.holder d
          (λ k has. (has, own_without r.history entry k (λ e. other (sym has ∙ (ap r.owner (sym e) ∙ (was.known.owned entry.caller low high).0)))))
          (λ l inside held taken. let away : l ≢ lane = λ e. other (sym held ∙ (ap r.holder e ∙ turn_is.held)) in (beside l ∙ taken, held, apart l away))
          (r.each j d there)

-- the turn is given back, and the lane comes home with it
pub gives_turn : (shape : Shape) (slots id : ℕ) (me : Sat) (lane : ℕ) (x : Lane) → 0 < me.0.shape.lanes → me.0.turn ≡ turn_word lane
    → me.1 ≡ (lane, Some x) ∷ [] → IsInHand me.0.shape x me.0.mine
    → Allows (IsKept shape) slots id me (turn_word lane) (λ _. 0) (Gives (step slots (turn_word lane) 0 0 none) me)
gives_turn shape slots id me lane x some_lane turn carried in_hand s r deep at _ =
    let was = r.each id me.0 at in
    let is = was.shape_is some_lane in
    let stands : IsLaneAt x shape.lanes shape.cap r.history lane = record {
      room = in_hand.0 ∙ ap (λ (z : Shape). z.cap) is;
      own = subst (IsLaneOf x) (was.turn lane turn).list in_hand.1;
    } in (
      turned me.0 0 [],
      gives,
      tt,
      subst (λ (cs : List (ℕ × Option Lane)). IsKept shape (stepped s (turn_word lane) 0 id cs (turned me.0 0 []) gives)) (sym carried) (gives_back shape s r id lane me.0 at turn x stands),
      refl,
    )

-- the next position is drawn, for the entry that the lane in hand gives
pub draws_entry : (shape : Shape) (slots id : ℕ) (me : Sat) (lane caller : ℕ) (ask : Ask) (entry : Entry) → 0 < me.0.shape.lanes → me.0.turn ≡ turn_word lane → me.0.kept ≡ []
    → lane_of_key me.0.shape.lanes ask.key ≡ lane → me.0.known.from ≤ caller → caller < me.0.known.to → length (own_of me.0.known.seen caller) < 2 ^ 40
    → entry ≡ entry_of 1 me.0.shape.cap me.0.mine caller ask
    → Allows (IsKept shape) slots id me 0 (λ n. (n + 1) % 2 ^ 64) (Draws entry (step slots 0 1 0 none) me)
draws_entry shape slots id me lane caller ask entry some_lane turn none_kept of_lane low high room made s r deep at _ = (
  drawn me.0 r.history entry,
  keeps,
  tt,
  subst (λ n. IsKept shape record { words = set s.words 0 n; homes = s.homes; views = set s.views id (drawn me.0 r.history entry) }) (sym next)
      (adds_entry shape s r id lane me.0 at turn entry entry_lane (subst (λ k. me.0.known.from ≤ k) (sym by) low) (subst (λ k. k < me.0.known.to) (sym by) high) none_kept
      (subst (λ k. length (own_of me.0.known.seen k) < 2 ^ 40) (sym by) room) follows),
  (
    r.history,
    refl,
    subst (λ (z : Shape). Shows z r.history me.0.known) (sym is) record { seen = was.known.seen; legal = r.legal; own = λ k a b. (was.known.owned k a b).1 },
    sym r.long,
    subst (λ (z : Shape). IsLegal z.lanes z.cap (r.history ++ entry ∷ [])) (sym is) (legal_more shape.lanes shape.cap r.history entry r.legal follows),
    subst (λ (z : Shape). All (λ e. e.caller < z.callers) (r.history ++ entry ∷ [])) (sym is)
        (All-push (λ (e : Entry). e.caller < shape.callers) r.history entry r.by_callers (omega (arith, by, high, was.known.within))),
  ),
)
  where
    was : Knows shape s.words r.holder r.owner r.history id me.0
    was = r.each id me.0 at

    is : me.0.shape ≡ shape
    is = was.shape_is some_lane

    by : entry.caller ≡ caller
    by = ap (λ (e : Entry). e.caller) made

    -- the list in hand is the history's filter by the lane of the ask
    list : me.0.mine ≡ entries_in shape.lanes (lane_of_key shape.lanes ask.key) r.history
    list = (was.turn lane turn).list ∙ (λ i. entries_in shape.lanes (sym of_lane i) r.history) ∙ (λ i. entries_in shape.lanes (lane_of_key (is i).lanes ask.key) r.history)

    entry_lane : lane_of_key shape.lanes entry.key ≡ lane
    entry_lane = ap (λ (e : Entry). lane_of_key shape.lanes e.key) made ∙ ap (λ (z : Shape). lane_of_key z.lanes ask.key) (sym is) ∙ of_lane

    moment : entry.at ≡ moment_of shape.lanes r.history ask.key ask.asked
    moment = ap (λ (e : Entry). e.at) made ∙ ap (λ es. moment_of 1 es ask.key ask.asked) list ∙ moment_of-alone shape.lanes r.history ask.key ask.asked

    answer : entry.answer ≡ answer_of shape.lanes shape.cap r.history ask
    answer = ap (λ (e : Entry). e.answer) made ∙ (λ i. answer_of 1 (is i).cap (list i) ask) ∙ answer_of-alone shape.lanes shape.cap r.history ask

    follows : Follows shape.lanes shape.cap r.history entry
    follows = record {
      moment = moment ∙ ap (λ (e : Entry). moment_of shape.lanes r.history e.key e.asked) (sym made);
      answer = answer ∙ ap (λ (e : Entry). answer_of shape.lanes shape.cap r.history (ask_of e)) (sym made);
    }

    next : (get_or s.words 0 0 + 1) % 18446744073709551616 ≡ length (r.history ++ entry ∷ [])
    next =
        let fits : length r.history ≤ 1125899906842624 = history_fits shape.callers r.history r.callers r.by_callers r.room in
        omega (arith, r.long, fits, length_push r.history entry)
