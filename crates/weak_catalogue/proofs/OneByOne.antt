-- One by one: each outline of a catalogue is answered and aligned as if it had been called alone, and so demand 3 holds of each.
use mathlib.Core.Path.{◌≡◌, refl, sym, ◌∙◌, ap}
use mathlib.Core.List.{List, [], ◌∷◌, ◌++◌}
use Prim.Native.Nat.{ℕ, zero, suc, ◌+◌, ◌≤◌, ◌<◌}
use native.Mathlib.Omega.{arith}
use lib.ListN.{length, get_or, take, drop, length-drop}
use lib.Seq.{drop-drop, length-take-le, take_at, drop-append-add}
use lib.IntN.{ℤ}
use Rattle.refusals.specs.Refusal.{refusal}
use Rattle.refusals.proofs.Answers.{worked}
use Rattle.weak.specs.Weak.{result, Outcome}
use Rattle.weak.specs.Faithful.{Demand3}
use Rattle.weak.proofs.Parts.{part}
use Rattle.weak.proofs.Determined.{result-length}
use Rattle.weak.proofs.Faithful.{demand_3}
use Rattle.weak_catalogue.specs.Catalogue.{total, catalogue_tests, answers_of, currents_of, Catalogued}
use Rattle.weak_catalogue.proofs.Determined.{adding}

-- the outline j of the shared lists: its points begin behind those of the outlines in front of it, by the counts, and its contour ends likewise; a and d are
-- the
-- answers and the currents at the end
abbrev pub Alone : (o c : List ℤ) (t es ns ks a : List ℕ) (d : List ℤ) (j : ℕ) → Type 0
Alone o c t es ns ks a d j =
    Outcome (part (total (take j ns)) (get_or ns j 0) o) (part (total (take j ns)) (get_or ns j 0) c) (part (total (take j ns)) (get_or ns j 0) t)
    (part (total (take j ks)) (get_or ks j 0) es)
    (get_or a j 0) (part (total (take j ns)) (get_or ns j 0) d)

-- the currents of an outline are as many as its points
first-length : (o c : List ℤ) (t es : List ℕ) (n k : ℕ) → n ≤ length c → length (result (take n o) (take n c) (take n t) (take k es)) ≡ n
first-length o c t es n k h = result-length (take n o) (take n c) (take n t) (take k es) ∙ length-take-le n c h

-- outlines that stand one behind another
each : (j : ℕ) (o c : List ℤ) (t es ns ks : List ℕ) → total ns ≤ length c → j < length ns → j < length ks
    → Alone o c t es ns ks (answers_of o c t es ns ks) (currents_of o c t es ns ks) j
unfolding total answers_of currents_of
each j o c t es [] ks h p q = absurd (omega arith)
each j o c t es (n ∷ ns) [] h p q = absurd (omega arith)
each zero o c t es (n ∷ ns) (k ∷ ks) h p q = record {
  answer = refl;
  currents = take_at (result (take n o) (take n c) (take n t) (take k es)) _ n (first-length o c t es n k (omega arith));
}
each (suc j) o c t es (n ∷ ns) (k ∷ ks) h p q =
    let s = total (take j ns) in
    let m = get_or ns j 0 in
    let first = result (take n o) (take n c) (take n t) (take k es) in
    let rest = currents_of (drop n o) (drop n c) (drop n t) (drop k es) ns ks in
    let w = each j (drop n o) (drop n c) (drop n t) (drop k es) ns ks (omega (arith, length-drop n c)) (omega arith) (omega arith) in
    let f : drop s rest ≡ drop (n + s) (first ++ rest) =
    sym (ap (λ (x : ℕ). drop (x + s) (first ++ rest)) (sym (first-length o c t es n k (omega arith))) ∙ drop-append-add first rest s) in
    rw (drop-drop s n o, drop-drop s n c, drop-drop s n t, drop-drop (total (take j ks)) k es, f) at w

module _ (o c d : List ℤ) (t es ns ks bs rs : List ℕ) (h : Catalogued o c t es ns ks bs 0 d rs) (j : ℕ) (more : j < length bs) where
  -- every outcome that the promise of `align_catalogue` allows with answer 0
  pub one_by_one : Alone o c t es ns ks rs d j
  one_by_one =
      let z = sym h.answer in
      let good = adding o c t es ns ks bs z in
      let e = h.currents ∙ worked (λ _. c) (currents_of o c t es ns ks) (refusal (catalogue_tests o c t es ns ks bs)) z in
      let f = h.answers ∙ worked (λ _. bs) (answers_of o c t es ns ks) (refusal (catalogue_tests o c t es ns ks bs)) z in
      let w = each j o c t es ns ks (omega (arith, good)) (omega (arith, good)) (omega (arith, good)) in
      rw (e, f) w

  -- demand 3 of the outline j, where it is answered by 0
  pub demand-3-each : get_or rs j 0 ≡ 0
      → Demand3 (part (total (take j ns)) (get_or ns j 0) o) (part (total (take j ns)) (get_or ns j 0) c) (part (total (take j ns)) (get_or ns j 0) t)
      (part (total (take j ks)) (get_or ks j 0) es) (part (total (take j ns)) (get_or ns j 0) d)
  demand-3-each e = demand_3 _ _ _ _ _ (rw e at one_by_one)
