-- Positions are as without marks: the rule reads no mark (request #105).
use Rattle.std.specs.Prelude.{None, Some}
use mathlib.Core.Path.{◌≡◌, ap, subst}
use mathlib.Core.List.{[], ◌∷◌}
use Prim.Native.Nat.{ℕ}
use lib.Dec.{leb, eqb}
use lib.IntN.{ℤ, ◌-ℤ◌}
use Rattle.refusals.specs.Refusal.{◌unless◌, refusal, too_long, bad_parameter, bad_index, out_of_range}
use Rattle.axis.specs.declared.kinds.Group.{Group}
use Rattle.axis.specs.Link.{Link}
use Rattle.axis.specs.declared.edge.Edge.{Edge}
use Rattle.axis.specs.declared.edge.Axis.{Axis}
use Rattle.axis.specs.Edge.{edge_at}
use Rattle.axis.specs.Limits.{most_edges}
use Rattle.axis.specs.Mark.{Blind}
use Rattle.axis.proofs.Alike.{
  Alike,
  AlikeAxis,
  placed_alike,
  fixed_alike,
  at-alike,
  put-alike,
  alike_len,
  cond-alike,
  indices-alike,
  numbers-alike,
  answered-alike,
  blind,
}
use Rattle.lowercase_m.specs.declared.stems.Stems.{Stems}
use Rattle.lowercase_m.specs.M.{delta, stems_of, move_done, move_only, move_link, move_serifs, move_stem, aligned, count_holds, mTests}
use Rattle.lowercase_m.specs.M.{hinted, hint_lowercase_m, without_marks}
use Rattle.lowercase_m.proofs.Reading.{SameRead, applies-by}

-- ---- the moves
done-alike : (a b : Axis) (i : ℕ) (d : ℤ) → AlikeAxis a b → AlikeAxis (move_done a i d) (move_done b i d)
unfolding move_done
done-alike a b i d h = put-alike a b i _ _ h (fixed_alike _ _ _ _ _ _ (at-alike a b i h) (ap (λ (e : Edge). e.pos -ℤ d) (at-alike a b i h).same))

only-alike : (a b : Axis) (i : ℕ) (d : ℤ) → AlikeAxis a b → AlikeAxis (move_only a i d) (move_only b i d)
unfolding move_only
only-alike a b i d h = put-alike a b i _ _ h (placed_alike _ _ _ _ _ _ (at-alike a b i h) (ap (λ (e : Edge). e.pos -ℤ d) (at-alike a b i h).same))

link-alike : (a b : Axis) (l : Link) (d : ℤ) → AlikeAxis a b → AlikeAxis (move_link a l d) (move_link b l d)
unfolding move_link
link-alike a b None d h = h
link-alike a b (Some k) d h = done-alike a b k d h

serifs-alike : (a b : Axis) (d : ℤ) → AlikeAxis a b → AlikeAxis (move_serifs a d) (move_serifs b d)
unfolding move_serifs
serifs-alike a b d h =
    cond-alike AlikeAxis _ _ _ a _ b (ap (λ (n : ℕ). eqb n 12) (alike_len a b h)) (only-alike (move_only a 8 d) (move_only b 8 d) 11 d (only-alike a b 8 d h)) h

module _ (a b : Axis) (alike : AlikeAxis a b) where
  at : (i : ℕ) → Alike (edge_at a i) (edge_at b i)
  at i = at-alike a b i alike

  stem-alike : (i : ℕ) (d : ℤ) → AlikeAxis (move_stem a i d) (move_stem b i d)
  unfolding move_stem
  stem-alike i d =
      let now = done-alike a b i d alike in
      subst (λ (l : Link). AlikeAxis (move_serifs (move_link (move_done a i d) (edge_at a i).link d) d) (move_serifs (move_link (move_done b i d) l d) d))
      (ap (λ (e : Edge). e.link) (at i).same)
      (serifs-alike _ _ d (link-alike _ _ (edge_at a i).link d now))

  -- ---- the rule
  read : (i : ℕ) → SameRead (edge_at a i) (edge_at b i)
  read i = record { opos = ap (λ (e : Edge). e.opos) (at i).same; link = ap (λ (e : Edge). e.link) (at i).same }

  aligned-alike : (group : Group) (s : Stems) → AlikeAxis (aligned group a s) (aligned group b s)
  unfolding aligned
  aligned-alike group s =
      let d = delta (edge_at a s.first).pos (edge_at a s.second).pos (edge_at a s.third).pos in
      cond-alike AlikeAxis _ _ _ a _ b (applies-by group s (read s.first) (read s.second) (read s.third))
      (subst (λ (e : ℤ). AlikeAxis (move_stem a s.third d) (move_stem b s.third e))
      (λ j. delta ((at s.first).same j).pos ((at s.second).same j).pos ((at s.third).same j).pos) (stem-alike s.third d)) alike

  -- ---- the call
  refusal-same : refusal (mTests a) ≡ refusal (mTests b)
  refusal-same = λ j.
      refusal (too_long unless leb (alike_len a b alike j) most_edges
      ∷ bad_parameter unless count_holds (alike_len a b alike j)
      ∷ bad_index unless indices-alike a b alike j
      ∷ out_of_range unless numbers-alike a b alike j
      ∷ [])

  outcome-same : (group : Group) → without_marks (hint_lowercase_m a group) ≡ without_marks (hint_lowercase_m b group)
  unfolding hint_lowercase_m
  outcome-same group =
      let n = alike_len a b alike in
      let work = subst (λ (k : ℕ). AlikeAxis (aligned group a (stems_of a.len)) (aligned group b (stems_of k))) n (aligned-alike group (stems_of a.len)) in
      answered-alike without_marks _ _ (hinted a) (hinted b) _ _ refusal-same (λ (k : ℕ). λ j. hinted (alike.same j) k) (λ j. hinted (work.same j) 0)

pub marks-unread : (group : Group) → Blind (λ (axis : Axis). hint_lowercase_m axis group) without_marks
marks-unread group = blind _ without_marks (λ (a b : Axis) (alike : AlikeAxis a b). outcome-same a b alike group)
