-- An empty body. The borrow is opened and closed at another ghost value.
use Rattle.std.proofs.Common.{[], ◌∷◌, ◌+◌, ◌++◌, refl, if◌then◌else◌}
use Rattle.std.proofs.raw_atomic.Walks.{proved}
use base.Logic.{id⊢}
use base.Fml.{ftrue, flft}
use mir.Syntax.{named}
use mir.Val.{vunit}
use types.Kit.{‵, ◌⊛◌, ◌$◌, ◌∵◌, !, qed, move, keep, use1, split, join, fsplit3, feq_i, suffices, frame, group}
use types.Run.{enter, of_opd, unit_lit, returns}
use types.ByLocal.{alloc_all, pass_all, free_all, look_at, sets}
use denote.Builtin.{u8, bool}
use denote.Exit.{yes}
use denote.Plain.{bool_vals, bool_Tells}
use denote.Ref.{MutRef, mut_vals, mut_Tells}
use denote.Slice.{ShrSlice, shr_slice_vals, shr_slice_Tells}
use denote.Signature.{plain, shr_slice_of}
use denote.Steps.{nothing, opens, closes}
use denote.Triple.Walked.{Stays, walk_of, stay_dropped, Goes-dropped, stay_ref, Goes-ref, ends_at}
use Rattle.mseed_stream.proofs.Facts.{next_fact, last_fact}
use Rattle.mseed_stream.specs.contracts.tally.Tally.record as f
use Rattle.mseed_stream.proofs.tally.Tally.record.Statement.{statement}
use Rattle.mseed_stream.proofs.tally.Tally.record.Code as code
use Rattle.mseed_stream.specs.contracts.tally.Tally.{the_row as R}

abbrev stayed : Stays f.ended.signature.params f.ended.kept
stayed = (stay_ref (0 ∷ []) tt (plain (λ _. R)), (stay_dropped _ yes, (stay_dropped _ yes, tt)))

pub record_spec : {M : Type 1} → statement M
record_spec 𝓤 𝓛 𝓜 𝓡 wired =
    let c = f.clauses 𝓛 𝓜.mem 𝓡.returns in let W = walk_of 𝓛 f.ended stayed c in
    proved 𝓛 f.ended stayed c 𝓜 𝓡 (
      Goes-ref 𝓛 2 0 tt (plain (λ _. R)),
      (
        Goes-dropped 𝓛 2 (shr_slice_of (1 ∷ []) tt (plain (λ _. u8))) yes (λ κs x w. refl),
        (Goes-dropped 𝓛 2 (plain (λ _. bool)) yes (λ κs x w. refl), tt),
      ),
    )
    f.Key.name code.function (code.unfolded 𝓤 𝓛.H 𝓜 𝓡 wired)
    (λ κs. (mut_vals, (shr_slice_vals, (bool_vals, tt))))
    (λ κs. (mut_Tells (named 0) κs.0 R, (shr_slice_Tells (named 1) κs.1.0 u8, (bool_Tells, tt))))
    (λ κs qs bounds a _ are.
    let b = a.0.ref_ptr.0 in let o = a.0.ref_ptr.1 in let h = a.0.now in let vs = mut_vals a.0 in
    let h' = record h {
      bytes = h.bytes ++ a.1.0.now;
      calls = h.calls + 1;
      failures = h.failures + (if a.1.1.0 then 1 else 0);
    } in
    let y : W.Ghost = ((κs, qs, bounds, a, (vs, (shr_slice_vals a.1.0, (bool_vals a.1.1.0, tt)))), tt) in
    qed 𝓛 (((‵ (flft κs.0 qs.0) ⊛ ‵ (flft κs.1.0 qs.1.0) ⊛ ‵ ftrue) ⊛ ‵ ((MutRef (named 0) κs.0 R).own_val a.0 vs)
    ⊛ ‵ ((ShrSlice (named 1) κs.1.0 u8).own_val a.1.0 (shr_slice_vals a.1.0)) ⊛ ‵
    (bool.own_val a.1.1.0 (bool_vals a.1.1.0)) ⊛ ‵ ftrue) ∷ ‵ ftrue ∷ []) ∵
    split ! $ split ! $ move ! (2 ∷ []) $ split ! $ keep ! (0 ∷ 2 ∷ 3 ∷ []) $
    enter ! _ _ _ _ _ $ alloc_all !
    (λ l. pass_all ! refl ((tt, tt), ((tt, (tt, (record { fits = are.1.0.0.1.0 }, tt))), ((tt, tt), tt))) $
    fsplit3 ! $ move ! (1 ∷ 2 ∷ 3 ∷ []) $ opens ! tt R b o (λ us.
    sets ! (of_opd ! (unit_lit !)) refl (tt, tt) $
    move ! (1 ∷ []) $ use1 𝓛 (‵ (R.own_val h' us)) (id⊢ 𝓤 _) $ move ! (1 ∷ 0 ∷ []) $ closes ! tt R h' us b o $
    -- [two parts of self; the token; self's first part; the other token]
    returns ! (look_at ! 0 refl) $ free_all ! refl $ move ! (3 ∷ []) $
    suffices ! _ (ends_at 𝓛 f.ended stayed c y vunit tt (h', (tt, (tt, tt))) (tt, (tt, (tt, tt)))) $
    group ! 3 $ nothing ! $ nothing ! $ join ! $ nothing ! $ join ! $ move ! (1 ∷ 0 ∷ []) $ join ! $ move !
    (1 ∷ 2 ∷ []) $ join ! $
    feq_i ! _ (vunit ∷ []) (vunit ∷ []) refl $ move ! (2 ∷ 0 ∷ []) $ join ! $ move ! (1 ∷ 0 ∷ []) $ join ! $ frame ! $
    next_fact ! refl $ next_fact ! refl $ last_fact ! refl)))
