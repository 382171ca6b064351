-- A `&κ mut [T]` that is lent as a `&κ' [T]` for a lifetime κ' of a call, and comes back as it was.
--     LentShared       what the holder keeps meanwhile: the lender's part at κ', and its own borrow at κ, open, with both halves of its ghost variable
--     lends_shared     own (the `&κ mut [T]` ((b, o), γ, ys)) ∗ [κ]_q  ⊢ ⇛ own (the `&κ' [T]` ((b, o), ys)) ∗ LentShared        with tokens, which come back, at which the type has
--                      the law of `denote.Shares`
--     shared_back      given `Room`:  [†κ'] ∗ LentShared  ⊢ ⇛ (own (the `&κ mut [T]` ((b, o), γ, ys)) ∗ [κ]_q)
-- Assumes `Logic`.
use mathlib.Core.Path.{refl}
use Prim.Native.Nat.{ℕ}
use mathlib.Core.List.{List, [], ◌∷◌}
use lib.ListN.{length}
use seplogic.Ra.Ura.{Ura}
use base.Fraction.{full_share}
use mir.Syntax.{Lifetime}
use mir.Val.{Val}
use base.Logic.{ent, sep, ex}
use base.Fml.{Lft, GName, Share, Fml, fsep, flft, fdead, fobs, fauth, flent, fobor, Incl}
use types.Logic.{Logic, sem, lfts}
use types.Kit.{
  ‵,
  ◌⊛◌,
  raw,
  later,
  ◌$◌,
  ◌∵◌,
  !,
  qed,
  move,
  use1,
  use2,
  drop,
  split,
  pick,
  fsplit,
  fjoin,
  feq_i,
  frame,
  await,
  updating,
  now as at_once,
  show,
  done,
}
use types.Tokens.{lent_back}
use types.Share.{arr_parts}
use denote.RattleType.{RattleType}
use denote.Shadow.{pure_l, pure_i}
use denote.Memory.{shares, shared_of}
use denote.Ref.{MutBor, Bor}
use denote.Shares.{SharesAsFrom}
use ghost.Rules.{Toks, span}
use denote.Slice.{slice_val, MutSlice, ShrSlice, heres, Room, shr_slice_at, mut_slice_at, coded_holeys}
use denote.Lend.{Held, lends_shr_slice}
use denote.Index.{opens_slice, closes_slice}

module _ (R : RattleType) (κ κ' : Lft) (q : Share) (γ : GName) (b o : ℕ) (ys : List R.Denot) where
  abbrev at-list : GName → MutBor (List R.Denot)
  at-list δ = record { ref_ptr = (b, o); ghost_name = δ; now = ys }

  abbrev at-shared : Bor (List R.Denot)
  at-shared = record { ref_ptr = (b, o); now = ys }

  abbrev pub LentShared : Fml
  LentShared = fsep (flent κ' ((arr_parts (shares R) (length ys)).part full_share ys b o))
      (fsep (fobor κ q (Held R (length ys) b o γ)) (fsep (fobs γ ((coded_holeys R).code (heres R ys))) (fauth γ ((coded_holeys R).code (heres R ys)))))

  module _ {M : Type 1} {𝓤 : Ura M} (𝓛 : Logic 𝓤) (ℓ ℓ' : Lifetime) where
    open 𝓛 use {H, A}

    abbrev vals : List Val
    vals = slice_val (b, o) (length ys) ∷ []

    pub lends_shared : (l : Lft) → SharesAsFrom 𝓛 full_share R (shared_of R) l → (ts : Toks) → Incl (span ts) l → Incl (span ts) κ'
        → ent 𝓤 (sep 𝓤 (sem 𝓛 ((MutSlice ℓ κ R).own_val (at-list γ) vals)) (sep 𝓤 (A.lft κ q) (lfts 𝓛 ts)))
        (H.⇛ (sep 𝓤 (sem 𝓛 ((ShrSlice ℓ' κ' R).own_val at-shared vals)) (sep 𝓤 (sem 𝓛 LentShared) (lfts 𝓛 ts))))
    lends_shared l s ts inc sp =
        qed 𝓛 (‵ ((MutSlice ℓ κ R).own_val (at-list γ) vals) ∷ ‵ (flft κ q) ∷ raw (lfts 𝓛 ts) ∷ []) ∵ updating ! $ fsplit ! $
        pure_l ! (mut_slice_at R (at-list γ) vals) (λ p. fsplit ! $ opens_slice ! tt R ys b o $
        feq_i ! ℕ (length ys) (length ys) refl $ fjoin ! $ move ! (0 ∷ 4 ∷ []) $
        use2 𝓛 (later ((‵ ((ShrSlice ℓ' κ' R).own_val at-shared vals) ⊛ ‵
        (flent κ' ((arr_parts (shares R) (length ys)).part full_share ys b o))) ⊛ raw (lfts 𝓛 ts)))
        (lends_shr_slice 𝓛 R ℓ' κ' full_share ys b o p.1 l s ts inc sp) $ await ! tt $ split ! $ split ! $
        -- [the new slice; the lender's part at κ'; the tokens; the open borrow at κ; obs γ; auth γ]
        at_once ! $ frame ! $
        move ! (3 ∷ 4 ∷ []) $ fjoin ! $ move ! (3 ∷ 0 ∷ []) $ fjoin ! $ move ! (1 ∷ 0 ∷ []) $ fjoin ! $ frame ! $ done !)

    pub shared_back : Room R (length ys) → ent 𝓤 (sep 𝓤 (A.dead κ') (sem 𝓛 LentShared))
        (H.⇛ (sep 𝓤 (sem 𝓛 ((MutSlice ℓ κ R).own_val (at-list γ) vals)) (A.lft κ q)))
    shared_back room =
        qed 𝓛 (‵ (fdead κ') ∷ ‵ LentShared ∷ []) ∵ updating ! $ move ! (1 ∷ []) $ fsplit ! $ move ! (2 ∷ 0 ∷ []) $ lent_back ! tt $ fsplit ! $ drop ! $
        move ! (1 ∷ []) $ fsplit ! $ move ! (1 ∷ []) $ fsplit ! $ move ! (3 ∷ 2 ∷ 0 ∷ 1 ∷ []) $ closes_slice ! tt R ys ys refl b o $ at_once ! $
        fjoin ! $ pure_i ! (mut_slice_at R (at-list γ) vals) (tt, (tt, tt)) (refl, room) $ fjoin ! $ done !
