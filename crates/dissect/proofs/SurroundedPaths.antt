-- A rectangle beside a map: what it keeps, and what the bridge and the cuts after it keep.
use Rattle.std.proofs.Common.{◌≡◌, ◌≢◌, ℕ, ◌+◌, ◌-◌, ◌%◌, ◌<◌, ◌≤◌, ◌∙◌, zero, suc, Bool, true, List, arith, subst, sym, ap, inl, inr}
use Rattle.std.proofs.lemmas.Bool.{cases_lt}
use Rattle.dissect.specs.DartMaps.{DartMap, no_dart, IsTied, IsCut}
use Rattle.dissect.specs.Paths.{HasPaths, IsConnected}
use Rattle.dissect.specs.Surrounds.{IsSurrounded, IsEnclosed}
use Rattle.dissect.proofs.Splitting.{split_tied}
use Rattle.dissect.proofs.StayingConnected.{IsClosedUnder, by_next, by_reverse_dart, extended_connected, chord_extended, cut_tied, cut_extended, cut_up_extended}
use Rattle.dissect.proofs.Cuts.{IsBeside, beside_paths, cut_paths, AreQuarters, cut_quarters, cut_up_paths}

-- a fact at each dart of a surrounded map: at the old ones, at the four inside the rectangle and at the four outside it
pub by_side : (n : ℕ) (P : ℕ → Type 0) → ((a : ℕ) → a < n → P a) → ((k : ℕ) → k < 4 → P (n + k)) →
    ((k : ℕ) → k < 4 → P (n + 4 + k)) → (a : ℕ) → a < n + 8 → P a
by_side n P old inner outer a l =
    elim (cases_lt a n) [
      | inl low ↦ old a low
      | inr high ↦ elim (cases_lt a (n + 4)) [
        | inl mid ↦ subst P (rest n a high) (inner (a - n) (omega (arith, high, mid)))
        | inr far ↦ subst P (rest (n + 4) a far) (outer (a - (n + 4)) (omega (arith, l, far)))
      ]
    ]
  where
    rest : (n a : ℕ) → n ≤ a → n + (a - n) ≡ a
    rest n a high = omega arith

pub surrounded_tied : (w new : DartMap) → IsTied w → IsSurrounded w new → IsTied new
surrounded_tied w new tied f =
    let n : ℕ = w.darts in
    record {
      next_in = λ a l. by_side n (λ (a : ℕ). new.next a < new.darts)
          (λ a l. omega (arith, f.next_old a l, tied.next_in a l, f.darts))
          (λ k l. omega (arith, f.next_inside k l, f.darts)) (λ k l. omega (arith, f.next_outside k l, f.darts))
          a (omega (arith, f.darts));
      prev_in = λ a l. by_side n (λ (a : ℕ). new.prev a < new.darts)
          (λ a l. omega (arith, f.prev_old a l, tied.prev_in a l, f.darts))
          (λ k l. omega (arith, f.prev_inside k l, f.darts)) (λ k l. omega (arith, f.prev_outside k l, f.darts))
          a (omega (arith, f.darts));
      next_back = λ a l. by_side n (λ (a : ℕ). new.prev (new.next a) ≡ a)
          (λ a l. ap new.prev (f.next_old a l) ∙ f.prev_old (w.next a) (tied.next_in a l) ∙ tied.next_back a l)
          (λ k l. ap new.prev (f.next_inside k l) ∙ f.prev_inside ((k + 1) % 4) (omega arith) ∙ omega (arith, l))
          (λ k l. ap new.prev (f.next_outside k l) ∙ f.prev_outside ((k + 3) % 4) (omega arith) ∙ omega (arith, l))
          a (omega (arith, f.darts));
      prev_back = λ a l. by_side n (λ (a : ℕ). new.next (new.prev a) ≡ a)
          (λ a l. ap new.next (f.prev_old a l) ∙ f.next_old (w.prev a) (tied.prev_in a l) ∙ tied.prev_back a l)
          (λ k l. ap new.next (f.prev_inside k l) ∙ f.next_inside ((k + 3) % 4) (omega arith) ∙ omega (arith, l))
          (λ k l. ap new.next (f.prev_outside k l) ∙ f.next_outside ((k + 1) % 4) (omega arith) ∙ omega (arith, l))
          a (omega (arith, f.darts));
      reverse_dart_in = λ a l. by_side n (λ (a : ℕ). new.reverse_dart a < new.darts)
          (λ a l. omega (arith, f.reverse_dart_old a l, tied.reverse_dart_in a l, f.darts))
          (λ k l. omega (arith, f.reverse_dart_inside k l, f.darts)) (λ k l. omega (arith, f.reverse_dart_outside k l, f.darts))
          a (omega (arith, f.darts));
      reverse_dart_back = λ a l. by_side n (λ (a : ℕ). new.reverse_dart (new.reverse_dart a) ≡ a)
          (λ a l. ap new.reverse_dart (f.reverse_dart_old a l) ∙ f.reverse_dart_old (w.reverse_dart a) (tied.reverse_dart_in a l) ∙ tied.reverse_dart_back a l)
          (λ k l. ap new.reverse_dart (f.reverse_dart_inside k l) ∙ f.reverse_dart_outside k l)
          (λ k l. ap new.reverse_dart (f.reverse_dart_outside k l) ∙ f.reverse_dart_inside k l)
          a (omega (arith, f.darts));
      reverse_dart_apart = λ a l. by_side n (λ (a : ℕ). new.reverse_dart a ≢ a)
          (λ a l h. tied.reverse_dart_apart a l (sym (f.reverse_dart_old a l) ∙ h))
          (λ k l h. omega (arith, f.reverse_dart_inside k l, h))
          (λ k l h. omega (arith, f.reverse_dart_outside k l, h))
          a (omega (arith, f.darts));
    }

pub surrounded_quarters : (w new : DartMap) → AreQuarters w → IsSurrounded w new → AreQuarters new
surrounded_quarters w new quarters f a l =
    by_side w.darts (λ (a : ℕ). new.direction a < 4)
    (λ a l. omega (arith, f.direction_old a l, quarters a l))
    (λ k l. omega (arith, f.direction_inside k l, l)) (λ k l. omega (arith, f.direction_outside k l))
    a (omega (arith, f.darts))

pub surrounded_beside : (w new : DartMap) → IsTied w → IsSurrounded w new → IsBeside w new
surrounded_beside w new tied f = record {
  keeps = record { more = omega (arith, f.darts); head = f.head_old; direction = f.direction_old };
  kept = λ b l. record {
    inside = omega (arith, f.darts);
    before = f.before_old b l;
    reverse_dart = f.reverse_dart_old b l;
    head = ap new.head (f.reverse_dart_old b l) ∙ f.head_old (w.reverse_dart b) (tied.reverse_dart_in b l);
    direction = ap new.direction (f.reverse_dart_old b l) ∙ f.direction_old (w.reverse_dart b) (tied.reverse_dart_in b l);
  };
  fresh = λ a l late. by_side w.darts (λ (a : ℕ). w.darts ≤ a → new.before a ≡ no_dart)
      (λ a l late. absurd (omega (arith, l, late))) (λ k l _. f.before_inside k l) (λ k l _. f.before_outside k l)
      a (omega (arith, f.darts)) late;
}

-- a rectangle beside the map keeps all paths
pub surround_paths : (w new : DartMap) (n : ℕ) (reverse_dart : ℕ → ℕ) (quarters : ℕ → List ℕ) → IsTied w → IsSurrounded w new →
    HasPaths w n reverse_dart quarters → HasPaths new n reverse_dart quarters
surround_paths w new n reverse_dart quarters tied surrounded = beside_paths w new n reverse_dart quarters (surrounded_beside w new tied surrounded)

-- and so do the bridge and the cuts after it
pub enclosed_paths : (w : DartMap) (outside : ℕ) (new : DartMap) (n : ℕ) (reverse_dart : ℕ → ℕ) (quarters : ℕ → List ℕ) → IsTied w → AreQuarters w →
    IsEnclosed w outside new →
    HasPaths w n reverse_dart quarters → HasPaths new n reverse_dart quarters
enclosed_paths w outside new n reverse_dart quarters tied four e has =
    let tied_surrounded = surrounded_tied w e.surrounded tied e.surround in
    let four_surrounded : AreQuarters e.surrounded = surrounded_quarters w e.surrounded four e.surround in
    let tied_bridged = cut_tied e.surrounded e.right (w.darts + e.side) e.direction e.bridged tied_surrounded e.bridge in
    let four_bridged : AreQuarters e.bridged = cut_quarters e.surrounded e.right (w.darts + e.side) e.direction e.bridged four_surrounded e.bridge in
    cut_up_paths e.bridged new n reverse_dart quarters tied_bridged four_bridged e.cut_up
    (cut_paths e.surrounded e.right (w.darts + e.side) e.direction e.bridged n reverse_dart quarters tied_surrounded
    (four_surrounded (w.darts + e.side) e.bridge.e_in) e.bridge
    (surround_paths w e.surrounded n reverse_dart quarters tied e.surround has))

-- a closed set of the surrounded map is one of the map
pub surrounded_shut : (w new : DartMap) (s : ℕ → Bool) → IsSurrounded w new → IsClosedUnder new s → IsClosedUnder w s
surrounded_shut w new s f shut = record {
  next = λ a l h. by_next new s a (w.next a) shut (omega (arith, f.darts)) (f.next_old a l) h;
  reverse_dart = λ a l h. by_reverse_dart new s a (w.reverse_dart a) shut (omega (arith, f.darts)) (f.reverse_dart_old a l) h;
}

-- round the inside of the rectangle
pub ring_turned : (w new : DartMap) (s : ℕ → Bool) (k i : ℕ) → IsSurrounded w new → IsClosedUnder new s → k < 4 → s (w.darts + k) ≡ true →
    s (w.darts + (k + i) % 4) ≡ true
ring_turned w new s k zero f shut l h = subst (λ (j : ℕ). s (w.darts + j) ≡ true) (omega (arith, l)) h
ring_turned w new s k (suc i) f shut l h =
    let on : s (w.darts + (k + i) % 4) ≡ true = ring_turned w new s k i f shut l h in
    let inside : w.darts + (k + i) % 4 < new.darts = omega (arith, f.darts) in
    let step : new.next (w.darts + (k + i) % 4) ≡ w.darts + (k + suc i) % 4 =
    f.next_inside ((k + i) % 4) (omega arith) ∙ omega arith in
    by_next new s (w.darts + (k + i) % 4) (w.darts + (k + suc i) % 4) shut inside step on

-- a closed set that holds one dart of the rectangle holds them all
pub ring_whole : (w new : DartMap) (s : ℕ → Bool) (k : ℕ) → IsSurrounded w new → IsClosedUnder new s → k < 4 → s (w.darts + k) ≡ true →
    (a : ℕ) → a < new.darts → w.darts ≤ a → s a ≡ true
ring_whole w new s k f shut l h a a_in late =
    let inner : (j : ℕ) → j < 4 → s (w.darts + j) ≡ true = λ j l_j.
    subst (λ (i : ℕ). s (w.darts + i) ≡ true) (there k j l l_j) (ring_turned w new s k (j + 4 - k) f shut l h) in
    by_side w.darts (λ (a : ℕ). w.darts ≤ a → s a ≡ true)
    (λ a l late. absurd (omega (arith, l, late))) (λ j l_j _. inner j l_j)
    (λ j l_j _. by_reverse_dart new s (w.darts + j) (w.darts + 4 + j) shut (omega (arith, f.darts, l_j)) (f.reverse_dart_inside j l_j) (inner j l_j))
    a (omega (arith, f.darts)) late
  where
    there : (k j : ℕ) → k < 4 → j < 4 → (k + (j + 4 - k)) % 4 ≡ j
    there k j l l_j = omega arith

-- a closed set that holds any dart of the rectangle holds one of its inside
pub ring_some : (w new : DartMap) (s : ℕ → Bool) (a : ℕ) → IsSurrounded w new → IsClosedUnder new s → a < new.darts → w.darts ≤ a → s a ≡ true →
    (k : ℕ) × (k < 4) × (s (w.darts + k) ≡ true)
ring_some w new s a f shut a_in late =
    by_side w.darts (λ (a : ℕ). w.darts ≤ a → s a ≡ true → (k : ℕ) × (k < 4) × (s (w.darts + k) ≡ true))
    (λ a l late h. absurd (omega (arith, l, late))) (λ k l _ h. (k, l, h))
    (λ k l _ h. (k, l, by_reverse_dart new s (w.darts + 4 + k) (w.darts + k) shut (omega (arith, f.darts, l)) (f.reverse_dart_outside k l) h))
    a (omega (arith, f.darts)) late

-- the bridge leads from the map to the rectangle
pub bridge_there : (surrounded : DartMap) (right e way : ℕ) (new : DartMap) (s : ℕ → Bool) → IsCut surrounded right e way new → IsClosedUnder new s →
    s right ≡ true → s e ≡ true
bridge_there surrounded right e way new s cut shut h =
    let there : s cut.middle.darts ≡ true =
    by_next new s right cut.middle.darts shut (omega (arith, cut.chord.darts, cut.fits.d_in)) cut.chord.next_d h in
    by_next new s cut.middle.darts e shut (omega (arith, cut.chord.darts)) (cut.chord.next_there ∙ cut.subdivide.next_first) there

-- and back
pub bridge_back : (surrounded : DartMap) (right e way : ℕ) (new : DartMap) (s : ℕ → Bool) → IsTied surrounded → IsCut surrounded right e way new →
    IsClosedUnder new s → right ≢ surrounded.prev e → right ≢ surrounded.prev (surrounded.reverse_dart e) → s (surrounded.prev e) ≡ true →
    s (surrounded.next right) ≡ true
bridge_back surrounded right e way new s tied cut shut not_c not_p h =
    let tied_middle = split_tied surrounded e (surrounded.direction e) 2 cut.middle tied cut.e_in cut.subdivide in
    let middle : IsClosedUnder cut.middle s =
    (chord_extended cut.middle right surrounded.darts way new tied_middle cut.fits cut.chord).shut s shut in
    let first : s surrounded.darts ≡ true =
    by_next cut.middle s (surrounded.prev e) surrounded.darts middle (omega (arith, cut.subdivide.darts, tied.prev_in e cut.e_in))
    cut.subdivide.next_before h in
    let back : s (cut.middle.darts + 1) ≡ true =
    by_next new s surrounded.darts (cut.middle.darts + 1) shut (omega (arith, cut.chord.darts, cut.subdivide.darts)) cut.chord.next_f first in
    by_next new s (cut.middle.darts + 1) (surrounded.next right) shut (omega (arith, cut.chord.darts))
    (cut.chord.next_back ∙ cut.subdivide.next_other right cut.d_in not_c not_p) back

-- a connected map stays connected with the rectangle that a cut leads to
pub bridge_connected : (w surrounded : DartMap) (right side way : ℕ) (new : DartMap) → IsTied w → IsConnected w → IsSurrounded w surrounded → right < w.darts →
    side < 4 → IsCut surrounded right (w.darts + side) way new → IsConnected new
bridge_connected w surrounded right side way new tied connected f right_in side_in cut s next reverse_dart a b l_a l_b h =
    let e : ℕ = w.darts + side in
    let shut : IsClosedUnder new s = record { next = next; reverse_dart = reverse_dart } in
    let tied_surrounded = surrounded_tied w surrounded tied f in
    let extended = cut_extended surrounded right e way new tied_surrounded cut in
    let shut_surrounded : IsClosedUnder surrounded s = extended.shut s shut in
    let shut_old : IsClosedUnder w s = surrounded_shut w surrounded s f shut_surrounded in
    let found = extended.some s shut a l_a h in
    let prev_e : surrounded.prev e ≡ w.darts + (side + 3) % 4 = f.prev_inside side side_in in
    let prev_t : surrounded.prev (surrounded.reverse_dart e) ≡ w.darts + 4 + (side + 1) % 4 =
    ap surrounded.prev (f.reverse_dart_inside side side_in) ∙ f.prev_outside side side_in in
    let from_old : (c : ℕ) → c < w.darts → s c ≡ true → (k : ℕ) → k < surrounded.darts → s k ≡ true = λ c l_c at k l_k.
    elim (cases_lt k w.darts) [
      | inl low ↦ connected s shut_old.next shut_old.reverse_dart c k l_c low at
      | inr high ↦
          let on : s right ≡ true = connected s shut_old.next shut_old.reverse_dart c right l_c right_in at in
          ring_whole w surrounded s side f shut_surrounded side_in (bridge_there surrounded right e way new s cut shut on) k l_k high
    ] in
    let from_ring : (k : ℕ) → k < 4 → s (w.darts + k) ≡ true → s (w.next right) ≡ true = λ k l_k at.
    let before : s (surrounded.prev e) ≡ true =
    ring_whole w surrounded s k f shut_surrounded l_k at (surrounded.prev e) (omega (arith, prev_e, f.darts)) (omega (arith, prev_e)) in
    subst (λ (j : ℕ). s j ≡ true) (f.next_old right right_in)
    (bridge_back surrounded right e way new s tied_surrounded cut shut
    (λ same. omega (arith, same, prev_e, right_in)) (λ same. omega (arith, same, prev_t, right_in)) before) in
    extended.all s shut
    (elim (cases_lt found.0 w.darts) [
      | inl low ↦ from_old found.0 low found.2
      | inr high ↦
          let ring = ring_some w surrounded s found.0 f shut_surrounded found.1 high found.2 in
          from_old (w.next right) (tied.next_in right right_in) (from_ring ring.0 ring.1 ring.2)
    ]) b l_b

-- a connected map stays connected in its rectangle
pub enclosed_connected : (w : DartMap) (outside : ℕ) (new : DartMap) → IsTied w → IsConnected w → IsEnclosed w outside new → IsConnected new
enclosed_connected w outside new tied connected e =
    let tied_surrounded = surrounded_tied w e.surrounded tied e.surround in
    let tied_bridged = cut_tied e.surrounded e.right (w.darts + e.side) e.direction e.bridged tied_surrounded e.bridge in
    extended_connected e.bridged new (cut_up_extended e.bridged new tied_bridged e.cut_up)
    (bridge_connected w e.surrounded e.right e.side e.direction e.bridged tied connected e.surround e.right_in e.side_in e.bridge)
