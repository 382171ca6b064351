-- Words of a record written, where the words stand, are that record changed in the table that they are read as.
use mathlib.Core.Path.{◌≡◌, refl, sym, ap, subst, ◌∙◌}
use mathlib.Core.List.{List, ◌++◌}
use mathlib.Core.Logic.{◌⊎◌, inl, inr, ⊎_elim}
use Prim.Native.Nat.{ℕ, ◌+◌, ◌-◌, ◌*◌, ◌≤◌, ◌<◌, min}
use native.Mathlib.Nat.{mul-le-mul_left}
use native.Mathlib.Omega.{arith}
use lib.ListN.{length, get_or, set, take, drop, replicate, length-set, length-append, get_or-append}
use lib.Seq.{get_or-set_same, get_or-set_other, get_or-append-add, get_or-take, get_or-drop, length-take-le, set-set}
use lib.IntN.{ℤ, pos}
use Rattle.signed.proofs.Signed.{lt-or-le}
use Rattle.axis.proofs.Walks.{same?}
use Rattle.words.specs.Word.{word_at, written, firsts, table}
use Rattle.words.proofs.Writing.{written-length}
use Rattle.words.proofs.Tables.{firsts-length, table-set}
use Rattle.words.proofs.Places.{firsts_at}
use Rattle.words.specs.Record.{Layout, count_of, WholeOf, BecameOf}
use Rattle.words.proofs.Codecs.{Codec, apart, alike}
use Rattle.words.proofs.Wholes.{as_many, still-below, room}

-- ---- words written from a place on
module _ (out ws : List ℤ) (at : ℕ) (h : at ≤ length out) where
  front : length (take at out) ≡ at
  front = length-take-le at out h

  fore : length (take at out ++ ws) ≡ at + length ws
  fore = length-append (take at out) ws ∙ ap (λ (n : ℕ). n + length ws) front

  -- one of them
  pub written-here : (k : ℕ) → k < length ws → word_at (written out at ws) (at + k) ≡ word_at ws k
  unfolding written
  written-here k l =
      get_or-append (take at out ++ ws) (drop (at + length ws) out) (pos 0) (at + k) (omega (arith, fore))
      ∙ ap (λ (n : ℕ). word_at (take at out ++ ws) (n + k)) (sym front) ∙ get_or-append-add (take at out) ws k (pos 0)

  -- another one
  pub written-beside : (n : ℕ) → (n < at) ⊎ (at + length ws ≤ n) → word_at (written out at ws) n ≡ word_at out n
  unfolding written
  written-beside n (inl l) =
      get_or-append (take at out ++ ws) (drop (at + length ws) out) (pos 0) n (omega (arith, fore))
      ∙ get_or-append (take at out) ws (pos 0) n (omega (arith, front))
      ∙ get_or-take at out n (pos 0) l
  written-beside n (inr l) =
      let m = n - (at + length ws) in
      let q : n ≡ length (take at out ++ ws) + m = omega (arith, fore) in
      let r : at + length ws + m ≡ n = omega arith in
      ap (word_at (take at out ++ ws ++ drop (at + length ws) out)) q ∙ get_or-append-add (take at out ++ ws) (drop (at + length ws) out) m (pos 0)
      ∙ get_or-drop (at + length ws) out m (pos 0) ∙ ap (word_at out) r

-- ---- the table that a list is read as
-- what is known of it: it is made of the list of its records, and is read and written by them
pub record Tabled {R T D : Type 0} (L : Layout R) (of : List ℤ → D → T) (at : T → ℕ → R) (put : T → ℕ → R → T) : Type 0 where
  pub empty : R
  pub wrap : D → List R → ℕ → T
  pub tables : (ws : List ℤ) (d : D) → of ws d ≡ wrap d (table L.most empty (λ (i : ℕ). L.from ws (0 + L.size * i)) (min (count_of L ws) L.most))
      (count_of L ws)
  pub gets : (d : D) (rs : List R) (n i : ℕ) → at (wrap d rs n) i ≡ get_or rs i empty
  pub puts : (d : D) (rs : List R) (n i : ℕ) (r : R) → put (wrap d rs n) i r ≡ wrap d (set rs i r) n

-- the words of one record are others
pub record WroteOf {R T D : Type 0} (L : Layout R) (of : List ℤ → D → T) (put : T → ℕ → R → T) (ws ws' : List ℤ) (i : ℕ) (r : R) : Type 0 where
  pub whole : WholeOf L ws'
  pub long : length ws' ≡ length ws
  pub table : (d : D) → of ws' d ≡ put (of ws d) i r
  pub read : L.from ws' (L.size * i) ≡ r

module _ {R T D : Type 0} {L : Layout R} {of : List ℤ → D → T} {at : T → ℕ → R} {put : T → ℕ → R → T} (B : Tabled L of at put) where
  -- how many records it holds
  abbrev held : List ℤ → ℕ
  held ws = min (count_of L ws) L.most

  abbrev rows : List ℤ → ℕ → R
  rows ws i = L.from ws (0 + L.size * i)

  abbrev all : List ℤ → List R
  all ws = table L.most B.empty (rows ws) (held ws)

  row : (ws : List ℤ) (i : ℕ) → rows ws i ≡ L.from ws (L.size * i)
  row ws i = let q : 0 + L.size * i ≡ L.size * i = omega arith in ap (L.from ws) q

  -- its record in a place is the one whose words stand there
  pub record-in : (ws : List ℤ) (d : D) (i : ℕ) → WholeOf L ws → i < count_of L ws → at (of ws d) i ≡ L.from ws (L.size * i)
  unfolding table
  record-in ws d i w h =
      ap (λ (t : T). at t i) (B.tables ws d) ∙ B.gets d _ _ i ∙ firsts_at (rows ws) (held ws) i _ B.empty (omega (arith, w.few)) ∙ row ws i

  -- one of them is another
  put_in : (ws ws' : List ℤ) (d : D) (i : ℕ) (r : R) → length ws' ≡ length ws → WholeOf L ws → i < count_of L ws → L.from ws' (L.size * i) ≡ r
      → ((m : ℕ) → (m ≡ i → ⊥) → L.from ws' (L.size * m) ≡ L.from ws (L.size * m)) → of ws' d ≡ put (of ws d) i r
  put_in ws ws' d i r len w h new old =
      let n : count_of L ws' ≡ count_of L ws = as_many L ws ws' len in
      B.tables ws' d ∙ ap (λ (k : ℕ). B.wrap d (table L.most B.empty (rows ws') (min k L.most)) k) n
      ∙ ap (λ (rs : List R). B.wrap d rs (count_of L ws))
      (sym (table-set L.most B.empty (rows ws) (rows ws') i (held ws) r (omega (arith, w.few)) (row ws' i ∙ new)
      (λ (m : ℕ) (q : m ≡ i → ⊥). row ws' m ∙ old m q ∙ sym (row ws m))))
      ∙ sym (B.puts d _ _ i r) ∙ ap (λ (t : T). put t i r) (sym (B.tables ws d))

  -- twice the same
  put-twice : (ws : List ℤ) (d : D) (i : ℕ) (a b : R) → put (put (of ws d) i a) i b ≡ put (of ws d) i b
  put-twice ws d i a b =
      let t = B.tables ws d in
      ap (λ (u : T). put (put u i a) i b) t ∙ ap (λ (u : T). put u i b) (B.puts d (all ws) (count_of L ws) i a)
      ∙ B.puts d (set (all ws) i a) (count_of L ws) i b
      ∙ ap (λ (rs : List R). B.wrap d rs (count_of L ws)) (set-set (all ws) i a b) ∙ sym (B.puts d (all ws) (count_of L ws) i b)
      ∙ ap (λ (u : T). put u i b) (sym t)

  -- what is put is there
  put-there : (ws : List ℤ) (d : D) (i : ℕ) (r : R) → WholeOf L ws → i < count_of L ws → at (put (of ws d) i r) i ≡ r
  unfolding table
  put-there ws d i r w h =
      ap (λ (t : T). at (put t i r) i) (B.tables ws d) ∙ ap (λ (t : T). at t i) (B.puts d (all ws) (count_of L ws) i r)
      ∙ B.gets d (set (all ws) i r) (count_of L ws) i
      ∙ get_or-set_same (all ws) i r B.empty (omega
      (arith, length-append (firsts (rows ws) (held ws)) (replicate (L.most - held ws) B.empty), firsts-length (rows ws) (held ws), w.few, h))

  -- the second of two stores changes what the first has made of the record
  pub put-again : (g : R → R) (ws : List ℤ) (d : D) (i : ℕ) (x : R) → WholeOf L ws → i < count_of L ws
      → put (put (of ws d) i x) i (g (at (put (of ws d) i x) i)) ≡ put (of ws d) i (g x)
  put-again g ws d i x w h = ap (λ (y : R). put (put (of ws d) i x) i (g y)) (put-there ws d i x w h) ∙ put-twice ws d i x (g x)

  -- ---- one record written
  -- by which words: its own are those that it is written as, the others are kept
  module _ (C : Codec L) (ws ws' : List ℤ) (i : ℕ) (r : R) (w : WholeOf L ws) (h : i < count_of L ws) (len : length ws' ≡ length ws)
      (read : L.from ws' (L.size * i) ≡ r)
      (own : (k : ℕ) → k < L.size → word_at ws' (L.size * i + k) ≡ word_at (L.words r) k)
      (beside : (m k : ℕ) → (m ≡ i → ⊥) → k < L.size → word_at ws' (L.size * m + k) ≡ word_at ws (L.size * m + k)) where
    others : (m : ℕ) → (m ≡ i → ⊥) → L.from ws' (L.size * m) ≡ L.from ws (L.size * m)
    others m q = alike C ws ws' (L.size * m) (L.size * m) (λ (k : ℕ) (l : k < L.size). beside m k q l)

    pub wrote : WroteOf L of put ws ws' i r
    wrote = record {
      whole = record {
        few = omega (arith, as_many L ws ws' len, w.few);
        long = len ∙ w.long ∙ ap (λ (k : ℕ). L.size * k) (sym (as_many L ws ws' len));
        word = λ (m k : ℕ) (l : m < count_of L ws') (b : k < L.size).
            ⊎_elim
            (λ (q : m ≡ i).
            subst (λ (n : ℕ). word_at (L.words (L.from ws' (L.size * n))) k ≡ word_at ws' (L.size * n + k)) (sym q)
            (ap (λ (x : R). word_at (L.words x) k) read ∙ sym (own k b)))
            (λ (q : m ≡ i → ⊥).
            ap (λ (x : R). word_at (L.words x) k) (others m q) ∙ w.word m k (omega (arith, as_many L ws ws' len, l)) b ∙ sym (beside m k q b))
            (same? m i);
      };
      long = len;
      table = λ (d : D). put_in ws ws' d i r len w h read others;
      read = read;
    }

  module _ (C : Codec L) (ws : List ℤ) (i : ℕ) (w : WholeOf L ws) (h : i < count_of L ws) where
    abbrev old : R
    old = L.from ws (L.size * i)

    -- one word of it: it is read as r, which is written with that word
    pub word-wrote : (j : ℕ) (v : ℤ) (r : R) → j < L.size → L.from (set ws (L.size * i + j) v) (L.size * i) ≡ r → L.words r ≡ set (L.words old) j v
        → WroteOf L of put ws (set ws (L.size * i + j) v) i r
    word-wrote j v r b read new = wrote C ws _ i r w h (length-set ws (L.size * i + j) v) read own
        (λ (m k : ℕ) (q : m ≡ i → ⊥) (l : k < L.size).
        get_or-set_other ws (L.size * i + j) (L.size * m + k) v (pos 0) (λ (p : L.size * m + k ≡ L.size * i + j). q (apart L.size i m j k b l p)))
      where
        own : (k : ℕ) → k < L.size → word_at (set ws (L.size * i + j) v) (L.size * i + k) ≡ word_at (L.words r) k
        own k l =
            ⊎_elim
            (λ (q : k ≡ j).
            ap (λ (n : ℕ). word_at (set ws (L.size * i + j) v) (L.size * i + n)) q
            ∙ get_or-set_same ws (L.size * i + j) v (pos 0) (omega (arith, room ws i w h, b))
            ∙ sym (ap (word_at (set (L.words old) j v)) q ∙ get_or-set_same (L.words old) j v (pos 0) (omega (arith, C.sized old, b))))
            (λ (q : k ≡ j → ⊥).
            get_or-set_other ws (L.size * i + j) (L.size * i + k) v (pos 0) (λ (p : L.size * i + k ≡ L.size * i + j). q (omega arith))
            ∙ sym (get_or-set_other (L.words old) j k v (pos 0) q ∙ w.word i k h l))
            (same? k j)
            ∙ ap (λ (xs : List ℤ). word_at xs k) (sym new)

    -- all its words: those of a record that is given back by them
    pub record-wrote : (r : R) → L.from (L.words r) 0 ≡ r → WroteOf L of put ws (written ws (L.size * i) (L.words r)) i r
    record-wrote r back = wrote C ws _ i r w h (written-length ws (L.words r) (L.size * i) (omega (arith, size, space))) read own beside
      where
        size : length (L.words r) ≡ L.size
        size = C.sized r

        space : L.size * i + L.size ≤ length ws
        space = room ws i w h

        own : (k : ℕ) → k < L.size → word_at (written ws (L.size * i) (L.words r)) (L.size * i + k) ≡ word_at (L.words r) k
        own k l = written-here ws (L.words r) (L.size * i) (omega (arith, space)) k (omega (arith, size, l))

        read : L.from (written ws (L.size * i) (L.words r)) (L.size * i) ≡ r
        read =
            alike C (L.words r) _ 0 (L.size * i) (λ (k : ℕ) (l : k < L.size). own k l ∙ (let q : k ≡ 0 + k = omega arith in ap (word_at (L.words r)) q))
            ∙ back

        beside : (m k : ℕ) → (m ≡ i → ⊥) → k < L.size → word_at (written ws (L.size * i) (L.words r)) (L.size * m + k) ≡ word_at ws (L.size * m + k)
        beside m k q l =
            written-beside ws (L.words r) (L.size * i) (omega (arith, space)) (L.size * m + k)
            (⊎_elim (λ (g : m < i). inl (omega (arith, mul-le-mul_left L.size g)))
            (λ (g : i ≤ m). inr (let g' : i < m = omega (arith, q-lt m q g) in omega (arith, size, mul-le-mul_left L.size g'))) (lt-or-le m i))
          where
            q-lt : (m : ℕ) → (m ≡ i → ⊥) → i ≤ m → i < m
            q-lt m q g = ⊎_elim (λ (l : i < m). l) (λ (l : m ≤ i). absurd (q (omega arith))) (lt-or-le i m)

    -- all its words: those of another record of the list
    pub record-copied : (m : ℕ) → m < count_of L ws → WroteOf L of put ws (written ws (L.size * i) (L.words (L.from ws (L.size * m)))) i
        (L.from ws (L.size * m))
    record-copied m l =
        record-wrote (L.from ws (L.size * m))
        (alike C ws _ (L.size * m) 0 (λ (k : ℕ) (b : k < L.size). (let q : 0 + k ≡ k = omega arith in ap (word_at (L.words (L.from ws (L.size * m)))) q)
        ∙ w.word m k l b))

-- ---- one store behind the other
module _ {R T D : Type 0} {L : Layout R} {of : List ℤ → D → T} {put : T → ℕ → R → T} where
  -- by another name
  pub wrote_as : {ws ws' : List ℤ} {i : ℕ} {r g : R} → r ≡ g → WroteOf L of put ws ws' i r → WroteOf L of put ws ws' i g
  wrote_as {ws} {ws'} {i} {r} {g} q a = record { whole = a.whole; long = a.long; table = λ (d : D). a.table d ∙ ap (put (of ws d) i) q; read = a.read ∙ q }

  -- the words are others by an equation
  pub as_written : {ws ws' ws'' : List ℤ} {i : ℕ} {r : R} → ws'' ≡ ws' → WroteOf L of put ws ws' i r → WroteOf L of put ws ws'' i r
  as_written {ws} {ws'} {ws''} {i} {r} e a = subst (λ (x : List ℤ). WroteOf L of put ws x i r) (sym e) a

  -- so by the word that is set
  pub as-set : {ws ws' : List ℤ} {i : ℕ} {v z : ℤ} {r : R} (k : ℕ) → ws' ≡ set ws k v → v ≡ z → WroteOf L of put ws (set ws k z) i r
      → WroteOf L of put ws ws' i r
  as-set {ws} {ws'} {i} {v} {z} {r} k e q a = as_written (e ∙ ap (λ (x : ℤ). set ws k x) q) a

module _ {R T D : Type 0} {L : Layout R} {of : List ℤ → D → T} {at : T → ℕ → R} {put : T → ℕ → R → T} (B : Tabled L of at put) where
  -- twice the same record
  pub wrote-again : {ws w1 w2 : List ℤ} {i : ℕ} {r1 r2 : R} → WroteOf L of put ws w1 i r1 → WroteOf L of put w1 w2 i r2 → WroteOf L of put ws w2 i r2
  wrote-again {ws} {w1} {w2} {i} {r1} {r2} a b = record {
    whole = b.whole;
    long = b.long ∙ a.long;
    table = λ (d : D). b.table d ∙ ap (λ (t : T). put t i r2) (a.table d) ∙ put-twice B ws d i r1 r2;
    read = b.read;
  }

  -- one record changed, by what it was
  pub became : (f : R → R) {ws ws' : List ℤ} (i : ℕ) → WholeOf L ws → i < count_of L ws → WroteOf L of put ws ws' i (f (L.from ws (L.size * i)))
      → BecameOf L of (λ (t : T). put t i (f (at t i))) ws ws'
  became f {ws} {ws'} i w h a =
      record { whole = a.whole; long = a.long; table = λ (d : D). a.table d ∙ ap (λ (r : R). put (of ws d) i (f r)) (sym (record-in B ws d i w h)) }
