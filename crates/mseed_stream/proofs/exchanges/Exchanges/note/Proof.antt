-- An empty body. The borrow is opened and closed at another ghost value.
use Rattle.std.proofs.Common.{[], ◌∷◌, ◌++◌, refl}
use Rattle.std.proofs.raw_atomic.Walks.{proved}
use base.Logic.{id⊢}
use base.Fml.{ftrue, flft}
use mir.Syntax.{named}
use mir.Val.{vunit}
use types.Kit.{‵, ◌⊛◌, ◌$◌, ◌∵◌, !, qed, move, keep, use1, split, join, fsplit3, feq_i, suffices, frame, group}
use types.Run.{enter, of_opd, unit_lit, returns}
use types.ByLocal.{alloc_all, pass_all, free_all, look_at, sets}
use denote.Builtin.{bool}
use denote.Exit.{yes}
use denote.Plain.{bool_vals, bool_Tells}
use denote.Ref.{MutRef, ShrRef, mut_vals, mut_Tells, shr_vals, shr_Tells}
use denote.Signature.{plain, shr_ref_to}
use denote.Steps.{nothing, opens, closes}
use denote.Triple.Walked.{Stays, walk_of, stay_dropped, Goes-dropped, stay_ref, Goes-ref, ends_at}
use Rattle.mseed_stream.proofs.Facts.{last_fact}
use Rattle.mseed_stream.specs.contracts.exchanges.Exchanges.note as f
use Rattle.mseed_stream.proofs.exchanges.Exchanges.note.Statement.{statement}
use Rattle.mseed_stream.proofs.exchanges.Exchanges.note.Code as code
use Rattle.mseed_stream.specs.contracts.exchanges.Exchanges.{the_row as R}
use Rattle.mseed_stream.specs.contracts.tally.Tally.{the_row as T}

abbrev stayed : Stays f.ended.signature.params f.ended.kept
stayed = (stay_ref (0 ∷ []) tt (plain (λ _. R)), (stay_dropped _ yes, (stay_dropped _ yes, (stay_dropped _ yes, tt))))

pub note_spec : {M : Type 1} → statement M
note_spec 𝓤 𝓛 𝓜 𝓡 wired =
    let c = f.clauses 𝓛 𝓜.mem 𝓡.returns in let W = walk_of 𝓛 f.ended stayed c in
    proved 𝓛 f.ended stayed c 𝓜 𝓡 (
      Goes-ref 𝓛 3 0 tt (plain (λ _. R)),
      (
        Goes-dropped 𝓛 3 (shr_ref_to (1 ∷ []) tt (plain (λ _. T))) yes (λ κs x w. refl),
        (
          Goes-dropped 𝓛 3 (shr_ref_to (2 ∷ []) tt (plain (λ _. T))) yes (λ κs x w. refl),
          (Goes-dropped 𝓛 3 (plain (λ _. bool)) yes (λ κs x w. refl), tt),
        ),
      ),
    )
    f.Key.name code.function (code.unfolded 𝓤 𝓛.H 𝓜 𝓡 wired)
    (λ κs. (mut_vals, (shr_vals, (shr_vals, (bool_vals, tt)))))
    (λ κs. (
      mut_Tells (named 0) κs.0 R,
      (shr_Tells (named 1) κs.1.0 T, (shr_Tells (named 2) κs.1.1.0 T, (bool_Tells, tt))),
    )) (λ κs qs bounds a _ are.
    let b = a.0.ref_ptr.0 in let o = a.0.ref_ptr.1 in let h = a.0.now in let vs = mut_vals a.0 in
    let reads = a.1.0.now in let writes = a.1.1.0.now in
    let h' = record h {
      all = h.all ++ (record {
        read = record { bytes = reads.bytes; calls = reads.calls; failures = reads.failures; is_at_end = a.1.1.1.0 };
        written = record { bytes = writes.bytes; calls = writes.calls; failures = writes.failures };
      }) ∷ [];
    } in
    let y : W.Ghost = (
      (κs, qs, bounds, a, (vs, (shr_vals a.1.0, (shr_vals a.1.1.0, (bool_vals a.1.1.1.0, tt))))),
      tt,
    ) in
    qed 𝓛 (((‵ (flft κs.0 qs.0) ⊛ ‵ (flft κs.1.0 qs.1.0) ⊛ ‵ (flft κs.1.1.0 qs.1.1.0) ⊛ ‵ ftrue) ⊛ ‵
    ((MutRef (named 0) κs.0 R).own_val a.0 vs)
    ⊛ ‵ ((ShrRef (named 1) κs.1.0 T).own_val a.1.0 (shr_vals a.1.0)) ⊛ ‵
    ((ShrRef (named 2) κs.1.1.0 T).own_val a.1.1.0 (shr_vals a.1.1.0))
    ⊛ ‵ (bool.own_val a.1.1.1.0 (bool_vals a.1.1.1.0)) ⊛ ‵ ftrue) ∷ ‵ ftrue ∷ []) ∵
    split ! $ split ! $ move ! (2 ∷ []) $ split ! $ keep ! (0 ∷ 2 ∷ 3 ∷ []) $
    enter ! _ _ _ _ _ $ alloc_all ! (λ l. pass_all ! refl ((tt, tt), ((tt, tt), ((tt, tt), ((tt, tt), tt)))) $
    fsplit3 ! $ move ! (1 ∷ 2 ∷ 3 ∷ []) $ opens ! tt R b o (λ us.
    sets ! (of_opd ! (unit_lit !)) refl (tt, tt) $
    move ! (1 ∷ []) $ use1 𝓛 (‵ (R.own_val h' us)) (id⊢ 𝓤 _) $ move ! (1 ∷ 0 ∷ []) $ closes ! tt R h' us b o $
    -- [two parts of self; the token; self's first part; the other tokens]
    returns ! (look_at ! 0 refl) $ free_all ! refl $ move ! (3 ∷ []) $
    suffices ! _ (ends_at 𝓛 f.ended stayed c y vunit tt (h', (tt, (tt, (tt, tt)))) (tt, (tt, (tt, (tt, tt))))) $
    group ! 3 $ nothing ! $ nothing ! $ join ! $ nothing ! $ join ! $ nothing ! $ join ! $ move ! (1 ∷ 0 ∷ []) $ join !
    $ move ! (1 ∷ 2 ∷ []) $ join ! $
    feq_i ! _ (vunit ∷ []) (vunit ∷ []) refl $ move ! (2 ∷ 0 ∷ []) $ join ! $ move ! (1 ∷ 0 ∷ []) $ join ! $ frame ! $
    last_fact ! refl)))
