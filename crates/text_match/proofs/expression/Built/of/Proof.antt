-- The box goes into the struct, whose value is what lies in the box.
use mathlib.Core.Path.{◌≡◌, refl, sym, subst}
use mathlib.Core.List.{List, [], ◌∷◌, ◌++◌}
use mir.Syntax.{Ty}
use mir.Val.{Val, vstruct, vcons, vnil, of_list, has_ty, WT}
use base.Logic.{ent, emp}
use base.Fml.{ftrue, fsep, feq}
use prog.Wp.{WpFn}
use types.Kit.{‵, raw, ◌⊛◌, ◌$◌, ◌∵◌, !, qed, by, move, keep, split, fjoin, fpack, use0, feq_i}
use types.Run.{of_opd, no_more, and_then, returns, enter}
use types.ByLocal.{alloc_all, pass_all, free_all, look_at, get, sets}
use types.Part.{agg}
use contract.Monad.{fact, fact_i}
use contract.Running.{tables}
use denote.Exit.{yes}
use denote.RattleType.{RattleType, Valss, owns}
use denote.Laws.{Typed}
use denote.Memory.{lone}
use denote.Signature.{plain}
use denote.Steps.{nothing}
use denote.Struct.Struct.{as_fields}
use denote.Triple.Entry.{alive}
use denote.Triple.Walked.{Stays, stay_dropped, walk_of, Goes-dropped}
use Rattle.std.proofs.raw_atomic.Walks.{proved_at, leaves}
use Rattle.std.specs.contracts.alloc.Global as handle
use Rattle.std.proofs.alloc.Global.TheLaws as handle_laws
use Rattle.std.specs.contracts.boxed.Box as boxed
use Rattle.std.proofs.boxed.Box.TheLaws as box_laws
use Rattle.std.specs.contracts.impls.GlobalAllocator.TheImpl.{ghosts}
use Rattle.regex.specs.contracts.bytes.regex.Regex as regex
use Rattle.regex.proofs.bytes.regex.Regex.TheLaws as regex_laws
use Rattle.text_match.specs.declared.expression.Built.TheInside.{Inside}
use Rattle.text_match.specs.contracts.expression.Built.TheInside as inside
use Rattle.text_match.specs.contracts.expression.Built.of as f
use Rattle.text_match.proofs.expression.Built.of.Statement.{statement}
use Rattle.text_match.proofs.expression.Built.of.Code as code

abbrev R : RattleType
R = boxed.the_row regex.the_row handle.the_row ghosts

abbrev stayed : Stays f.ended.signature.params f.ended.kept
stayed = (stay_dropped (plain (λ _. R)) yes, tt)

abbrev Good : Val → Type 0
Good v = lib.Dec.T (has_ty (lone R.mir) v) × WT v

one : (τ : Ty) (vs : List Val) → Typed (τ ∷ []) vs → (v : Val) × ((vs ≡ v ∷ []) × (lib.Dec.T (has_ty τ v) × WT v))
one τ [] t = absurd t
one τ (v ∷ []) t = (v, (refl, t.0))
one τ (v ∷ w ∷ vs) t = absurd t.1

pub of_spec : {M : Type 1} → statement M
of_spec 𝓤 𝓛 𝓜 𝓡 wired =
    let c = f.clauses 𝓛 𝓜.mem 𝓡.returns in let W = walk_of 𝓛 f.ended stayed c in let 𝓣 = tables 𝓤 𝓛.H 𝓜 𝓡 𝓡.env in
    proved_at 𝓛 f.ended stayed c 𝓜 𝓡 (Goes-dropped 𝓛 0 (plain (λ _. R)) yes (λ κs x g. refl), tt)
    f.Key.name code.function (code.unfolded 𝓤 𝓛.H 𝓜 𝓡 wired) (λ z are.
    let x : R.Denot = z.0.3.0 in
    let At : List Val → W.Ghost = λ us. ((z.0.0, z.0.1, z.0.2, z.0.3, (us, tt)), z.1) in
    let Goes : List Val → Type 1 = λ us. ent 𝓤 (W.pre (At us)) (WpFn 𝓤 𝓛.H 𝓣.C 𝓣.Λ code.function (us ++ []) (W.post (At us))) in
    let got = one (lone R.mir) z.0.4.0 (((box_laws.the_row_laws regex.the_row handle.the_row ghosts regex_laws.the_row_laws handle_laws.the_row_laws).lawful 𝓛).typed x z.0.4.0 are.0) in
    let v : Val = got.0 in let good : Good v = got.1.1 in let u : Val = vstruct (vcons v vnil) in
    let r : Inside = record { regex = x } in
    subst Goes (sym got.1.0) (
    qed 𝓛 ((raw (alive 𝓛 f.signature z.0.0 z.0.1) ⊛ ‵ (owns (R ∷ []) (x, tt) (v ∷ [], tt))) ∷ raw ((c z.0.0 z.0.3).requires z.1) ∷ []) ∵
    split ! $ keep ! (1 ∷ 0 ∷ []) $ feq_i ! (List Val) (u ∷ []) (u ∷ []) refl $ fjoin ! $
    fpack ! (Valss (R ∷ [])) (λ vss. fsep (feq (List Val) (u ∷ []) (vstruct (of_list (vss.0 ++ [])) ∷ [])) (owns (R ∷ []) (x, tt) vss)) (v ∷ [], tt) $
    nothing ! $ move ! (1 ∷ 0 ∷ []) $ fjoin ! $ nothing ! $ move ! (1 ∷ 0 ∷ []) $ fjoin ! $
    fpack ! ((a : Inside) × ((a.regex.value ≡ x.value) × Unit {0})) (λ h. fsep (inside.the_row.own_val h.0 (u ∷ [])) ftrue) (r, (refl, tt)) $
    enter ! 𝓣.C 𝓣.Λ code.function (v ∷ []) (W.post (At (v ∷ []))) $ alloc_all ! (λ l. pass_all ! refl (good, tt) $
    sets ! (of_opd ! (get ! refl)) refl good $ sets ! (agg ! (and_then ! (get ! refl) (no_more !))) refl (as_fields (lone R.mir ∷ []) (v ∷ []) (good, tt)) $
    use0 𝓛 (raw (fact 𝓤 (x.value ≡ x.value))) (fact_i 𝓤 (x.value ≡ x.value) (emp 𝓤) refl) $ nothing ! $ nothing ! $ fjoin ! $
    returns ! (look_at ! 0 refl) $ free_all ! refl $ keep ! (3 ∷ 0 ∷ 2 ∷ 1 ∷ []) $ by ! (leaves 𝓛 f.ended stayed c (At (v ∷ [])) u x.value (tt, tt) (tt, tt)))))
