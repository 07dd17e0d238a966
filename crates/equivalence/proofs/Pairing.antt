-- A loop over two rows at once, which numbers the pairs.
use Rattle.std.proofs.Common.{◌≡◌, ℕ, zero, suc, ◌+◌, ◌-◌, ◌^◌, ◌<◌, ◌≤◌, List, [], ◌∷◌, reverse, map, length, get_or, take, min, Some, None, Option, Result, MatchResult, Bor, Iter, sym, refl, ap, ◌∙◌, subst, arith, pow-suc, add-zero, add-suc, pow_mono}
use Rattle.std.proofs.lemmas.List.{length-map, get_or-take, length-take-le}
use Rattle.std.specs.Iterator.{Yields}
use Rattle.std.specs.Iterator.Adapters.{zip_first, zip_second, enumerate_source, enumerate_count, enumerate_steps}
use Rattle.std.specs.Slice.Iter.{iter_rest}
use Rattle.std.specs.declared.iter.Enumerate.{Enumerate}
use Rattle.std.specs.declared.iter.Zip.{Zip}
use Rattle.std.proofs.iter.Yields.{fronts}
use Rattle.std.proofs.lemmas.Iterator.{zips}
use Rattle.std.proofs.lemmas.Slice.Zip.{zip_turn, zip_end}
use Rattle.amplitude.proofs.Bounds.{within_more, within_rooted}
use Rattle.amplitude.specs.Ring.{nought, rooted, Within}
use Rattle.amplitude.specs.declared.Amplitude.{Amplitude}
use Rattle.circuit.proofs.Counts.{mixes-reverse}
use Rattle.circuit.proofs.Numbers.{number-row}
use Rattle.circuit.proofs.Pairs.{bounded_at}
use Rattle.circuit.specs.Circuit.{mixes, AllFit}
use Rattle.circuit.specs.Rows.{row, state_of, amplitude}
use Rattle.circuit.specs.Vector.{Bounded, Column}
use Rattle.circuit.specs.declared.gate.Gate.{Gate}
use Rattle.circuit.specs.declared.vector.StateVector.{StateVector}
use Rattle.equivalence.proofs.Across.{row_by_row}
use Rattle.equivalence.proofs.Refusing.{unrefused}
use Rattle.equivalence.proofs.Scanning.{pair_told}
use Rattle.equivalence.specs.Compare.{refusal, FirstPair}
use Rattle.equivalence.specs.Scan.{Able, Tells, Told, entry}

-- what was numbered was yielded, and the count is how many there were
unnumbered : {S A : Type 0} (steps : S → Option A → S → Type 0) (xs : List (ℕ × A)) (s t : Enumerate S) → Yields (enumerate_steps steps) s xs t →
    Yields steps (enumerate_source s) (map (λ (p : ℕ × A). p.1) xs) (enumerate_source t) × (enumerate_count t ≡ enumerate_count s + length xs)
unnumbered steps [] s t e = (ap enumerate_source e, omega (arith, ap enumerate_count e))
unnumbered steps (x ∷ xs) s t (j, h, y) = let r = unnumbered steps xs j t y in ((enumerate_source j, h.0, r.0), (let e = r.1 in let f = h.2 in omega arith))

module _ {A B : Type 0} (ks : List A) (vs : List B) (xs : List (ℕ × (Bor A × Bor B))) (s t u : Enumerate (Zip (Iter A) (Iter B))) (r : Option (ℕ × (Bor A × Bor B)))
    (first : iter_rest (zip_first (enumerate_source s)) ≡ ks) (second : iter_rest (zip_second (enumerate_source s)) ≡ vs) (start : enumerate_count s ≡ 0)
    (y : Yields (enumerate_steps (zips fronts fronts)) s xs t) (h : enumerate_steps (zips fronts fronts) t r u) where
  abbrev pairs : List (Bor A × Bor B)
  pairs = map (λ (q : ℕ × (Bor A × Bor B)). q.1) xs

  long : length pairs ≡ length xs
  long = length-map xs (λ (q : ℕ × (Bor A × Bor B)). q.1)

  at_item : (o : Option (ℕ × (Bor A × Bor B))) → r ≡ o → enumerate_steps (zips fronts fronts) t o u
  at_item o e = subst (λ (o : Option (ℕ × (Bor A × Bor B))). enumerate_steps (zips fronts fronts) t o u) e h

  numbered_turn : (p : ℕ × (Bor A × Bor B)) → r ≡ Some p →
      (p.0 ≡ length xs) × (length xs < length ks) × (length xs < length vs) × ((d : A) → p.1.0.now ≡ get_or ks (length xs) d) × ((d : B) → p.1.1.now ≡ get_or vs (length xs) d)
  numbered_turn p e =
      let i = unnumbered (zips fronts fronts) xs s t y in
      let step = at_item (Some p) e in
      let z = zip_turn ks vs pairs (enumerate_source s) (enumerate_source t) (enumerate_source u) (Some p.1) first second i.0 p.1 refl step.0 in
      ((let c = step.1 in let f = i.1 in omega arith), rw long at z.0, rw long at z.1, (λ d. rw long at (z.2 d)), (λ d. rw long at (z.3 d)))

  numbered_end : r ≡ None → length xs ≡ min (length ks) (length vs)
  numbered_end e =
      let i = unnumbered (zips fronts fronts) xs s t y in
      sym long ∙ zip_end ks vs pairs (enumerate_source s) (enumerate_source t) (enumerate_source u) None first second i.0 refl (at_item None e).0

-- an entry of a row, and that there is room for its roots
pub record Entry (n : ℕ) (c d : List Gate) (at from : ℕ) (x : Amplitude) : Type 0 where
  pub is : rooted (mixes d) x ≡ entry n c d at from
  pub room : Within (2 ^ (61 - mixes d)) x
  pub small : Within (2 ^ 61) (rooted (mixes d) x)

within_many : (m k : ℕ) (a : Amplitude) → Within (2 ^ k) a → Within (2 ^ (k + m)) (rooted m a)
within_many zero k a h = rw add-zero h
within_many (suc m) k a h =
    subst (λ n. Within n (rooted (suc m) a)) (doubled (k + m) ∙ ap (λ n. 2 ^ n) (sym (add-suc k m)))
    (within_rooted (2 ^ (k + m)) (rooted m a) (within_many m k a h))
  where
    doubled : (n : ℕ) → 2 ^ n + 2 ^ n ≡ 2 ^ suc n
    doubled n = omega (arith, pow-suc 2 n)

-- a column of the gates the other way round is a row
pub row_entry : (n : ℕ) (c d : List Gate) (at : ℕ) → AllFit n c → mixes c + mixes d ≤ 60 → at < 2 ^ n → (s : StateVector) → Column (reverse c) n at s → (from : ℕ) → from < 2 ^ n →
    Entry n c d at from (get_or s.amplitudes from nought)
row_entry n c d at fit short ha s h from hf = record { is = ap (rooted (mixes d)) (column ∙ row_by_row n c fit at from ha hf); room = room; small = small }
  where
    column : get_or s.amplitudes from nought ≡ amplitude n (reverse c) at from
    column = unfold amplitude state_of in
        ap (λ k. get_or s.amplitudes k nought) (sym (number-row n from hf)) ∙ ap (λ k. state_of k s.amplitudes (row n from)) (sym h.qubits_are) ∙ h.is (row n from)

    room : Within (2 ^ (61 - mixes d)) (get_or s.amplitudes from nought)
    room =
        let e = mixes-reverse c in
        within_more (2 ^ mixes (reverse c)) (2 ^ (61 - mixes d)) (get_or s.amplitudes from nought) (pow_mono {i = mixes (reverse c)} {j = 61 - mixes d} (omega arith))
        (bounded_at (2 ^ mixes (reverse c)) n s.amplitudes from (subst (λ q. Bounded (2 ^ mixes (reverse c)) (state_of q s.amplitudes)) h.qubits_are h.bounded) hf)

    small : Within (2 ^ 61) (rooted (mixes d) (get_or s.amplitudes from nought))
    small =
        let e : 61 - mixes d + mixes d ≡ 61 = omega arith in
        subst (λ k. Within (2 ^ k) (rooted (mixes d) (get_or s.amplitudes from nought))) e (within_many (mixes d) (61 - mixes d) (get_or s.amplitudes from nought) room)

-- the pairs of a row, from the first
abbrev Pairs : Type 0
Pairs = Enumerate (Zip (Iter Amplitude) (Iter Amplitude))

pub record Begun (n : ℕ) (c d : List Gate) (at : ℕ) (s : Pairs) : Type 0 where
  pub xs : List Amplitude
  pub ys : List Amplitude
  pub first : iter_rest (zip_first (enumerate_source s)) ≡ xs
  pub second : iter_rest (zip_second (enumerate_source s)) ≡ ys
  pub start : enumerate_count s ≡ 0
  pub xs_long : length xs ≡ 2 ^ n
  pub ys_long : length ys ≡ 2 ^ n
  pub x : (from : ℕ) → from < 2 ^ n → Entry n c d at from (get_or xs from nought)
  pub y : (from : ℕ) → from < 2 ^ n → Entry n d c at from (get_or ys from nought)

-- one pair of them
pub record Turn (n : ℕ) (c d : List Gate) (at k : ℕ) (p : ℕ × (Bor Amplitude × Bor Amplitude)) : Type 0 where
  pub place : p.0 ≡ k
  pub inside : k < 2 ^ n
  pub x : Entry n c d at k p.1.0.now
  pub y : Entry n d c at k p.1.1.now

module _ {n : ℕ} {c d : List Gate} {at : ℕ} {s : Pairs} (b : Begun n c d at s) (t : Pairs) (ps : List (ℕ × (Bor Amplitude × Bor Amplitude))) (yielded : Yields (enumerate_steps (zips fronts fronts)) s ps t)
    (u : Pairs) (r : Option (ℕ × (Bor Amplitude × Bor Amplitude))) (step : enumerate_steps (zips fronts fronts) t r u) where
  pub row_turn : (p : ℕ × (Bor Amplitude × Bor Amplitude)) → r ≡ Some p → Turn n c d at (length ps) p
  row_turn p e =
      let z = numbered_turn b.xs b.ys ps s t u r b.first b.second b.start yielded step p e in
      let l : length ps < 2 ^ n = subst (λ k. length ps < k) b.xs_long z.1 in
      record {
        place = z.0;
        inside = l;
        x = subst (Entry n c d at (length ps)) (sym (z.3 nought)) (b.x (length ps) l);
        y = subst (Entry n d c at (length ps)) (sym (z.4 nought)) (b.y (length ps) l);
      }

  pub row_over : r ≡ None → length ps ≡ 2 ^ n
  row_over e =
      let z = numbered_end b.xs b.ys ps s t u r b.first b.second b.start yielded step e in
      let x = b.xs_long in
      let y = b.ys_long in
      omega arith

module _ (n : ℕ) (c d : List Gate) (taken : refusal n c d ≡ None) (at : ℕ) (ha : at < 2 ^ n) (xs ys : StateVector) (hx : Column (reverse c) n at xs) (hy : Column (reverse d) n at ys) (w : ℕ) (wide : w ≡ 2 ^ n) where
  pub begun : (s : Pairs) → iter_rest (zip_first (enumerate_source s)) ≡ take w xs.amplitudes → iter_rest (zip_second (enumerate_source s)) ≡ take w ys.amplitudes → enumerate_count s ≡ 0 → Begun n c d at s
  begun s first second start = record {
    xs = take w xs.amplitudes;
    ys = take w ys.amplitudes;
    first = first;
    second = second;
    start = start;
    xs_long = wide_row xs;
    ys_long = wide_row ys;
    x = λ from l. subst (Entry n c d at from) (sym (get_or-take w xs.amplitudes from nought (within from l))) (row_entry n c d at able.fit_c able.short ha xs hx from l);
    y = λ from l. subst (Entry n d c at from) (sym (get_or-take w ys.amplitudes from nought (within from l))) (row_entry n d c at able.fit_d (let e = able.short in omega arith) ha ys hy from l);
  }
    where
      able : Able n c d
      able = unrefused n c d taken

      within : (from : ℕ) → from < 2 ^ n → from < w
      within from l = subst (λ k. from < k) (sym wide) l

      wide_row : (v : StateVector) → length (take w v.amplitudes) ≡ 2 ^ n
      wide_row v = let p : 2 ^ n ≤ 256 = pow_mono {i = n} {j = 8} able.few in let l = v.whole in length-take-le w v.amplitudes (omega arith) ∙ wide

-- and what it tells
pub turn_told : {n : ℕ} {c d : List Gate} {at k : ℕ} {p : ℕ × (Bor Amplitude × Bor Amplitude)} {md mc : ℕ} {x y : Amplitude} → Turn n c d at k p → (o : Option ℕ) (r : Result (Option ℕ) ℕ) →
    at < 2 ^ n → Told n c d at k o → md ≡ mixes d → mc ≡ mixes c → x ≡ rooted md p.1.0.now → y ≡ rooted mc p.1.1.now → Tells p.0 o x y r → MatchResult r (Told n c d at (suc k)) (FirstPair n c d at)
turn_told {n} {c} {d} {at} {k} {p} {md} {mc} {x} {y} t o r ha h emd emc ex ey s =
    pair_told n c d at k ha t.inside o h r
    (subst (λ z. Tells k o z (entry n d c at k) r) (ex ∙ ap (λ m. rooted m p.1.0.now) emd ∙ t.x.is)
    (subst (λ z. Tells k o x z r) (ey ∙ ap (λ m. rooted m p.1.1.now) emc ∙ t.y.is)
    (subst (λ j. Tells j o x y r) t.place s)))
