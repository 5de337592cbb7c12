-- The stack of corners over a list of places.
use Rattle.std.proofs.Common.{◌≡◌, ◌≢◌, ℕ, zero, suc, ◌+◌, ◌-◌, ◌<◌, ◌≤◌, ◌∙◌, List, [], ◌∷◌, length, map, drop, get_or, set, arith, subst, sym, ap, refl, inl, inr, All, get_or-set_same, get_or-set_other}
use Rattle.std.proofs.lemmas.Bool.{cases_lt}
use Rattle.std.proofs.lemmas.List.{drop-set-lt}
use Rattle.std.proofs.lemmas.List.Elements.{All-set}
use Rattle.std.proofs.Math.ListN.{length-set}
use Rattle.dissect.specs.Turning.{HasNoHook, AreCornerAngles}
use Rattle.dissect.specs.DartMaps.{DartMap, IsCut}
use Rattle.dissect.specs.Faces.{IsCorner, In, concatenated, AreWaiting}
use Rattle.dissect.specs.FaceCutting.{down, tops, IsFaceCutting, CanCut, HasRoom, IsHookOn}
use Rattle.dissect.proofs.LeftTurns.{hookless_left, hookless_right, left_or_right}
use Rattle.dissect.proofs.Listing.{in_below, below_left}
use Rattle.dissect.proofs.Scanning.{scan_can, scan_bites, scan_kept, scan_cut_straight, scan_cut_turning, cut_room, in_down}
use Rattle.dissect.proofs.Finishing.{turns_of, ring_corners}

-- the stack where only the uppermost corner may stand on a left on a right
pub record IsTop (w0 : DartMap) (room : ℕ) (face : List ℕ) (w : DartMap) (xs : List ℕ) (h read : ℕ) : Type 0 where
  pub face_cutting : IsFaceCutting w0 face w (tops xs h) (drop read xs)
  pub low : h ≤ read
  pub some : 1 ≤ h
  pub inside : read ≤ length xs
  pub tail : HasNoHook 0 (map w.angle (tops xs (h - 1)))
  pub space : HasRoom w room

pub tops_more : (xs : List ℕ) (h : ℕ) → tops xs (h + 1) ≡ get_or xs h 0 ∷ tops xs h
tops_more xs h = let e : h + 1 ≡ suc h = omega arith in ap (tops xs) e

pub tops_set : (xs : List ℕ) (i x h : ℕ) → h ≤ i → tops (set xs i x) h ≡ tops xs h
tops_set xs i x zero le = refl
tops_set xs i x (suc h) le =
    ap (λ (k : ℕ). k ∷ tops (set xs i x) h) (get_or-set_other xs i h x 0 (λ e. omega (arith, e, le)))
    ∙ ap (λ (zs : List ℕ). get_or xs h 0 ∷ zs) (tops_set xs i x h (omega (arith, le)))

-- a write on top of the stack
pub tops_put : (xs : List ℕ) (h x : ℕ) → h < length xs → tops (set xs h x) (h + 1) ≡ x ∷ tops xs h
tops_put xs h x l =
    tops_more (set xs h x) h ∙ ap (λ (k : ℕ). k ∷ tops (set xs h x) h) (get_or-set_same xs h x 0 l)
    ∙ ap (λ (zs : List ℕ). x ∷ zs) (tops_set xs h x h (omega arith))

-- the three uppermost
pub tops_three : (xs : List ℕ) (k : ℕ) → tops xs (k + 3) ≡ get_or xs (k + 2) 0 ∷ get_or xs (k + 1) 0 ∷ get_or xs k 0 ∷ tops xs k
tops_three xs k =
    let e3 : k + 3 ≡ (k + 2) + 1 = omega arith in
    let e2 : k + 2 ≡ (k + 1) + 1 = omega arith in
    ap (tops xs) e3 ∙ tops_more xs (k + 2) ∙ ap (λ (zs : List ℕ). get_or xs (k + 2) 0 ∷ zs)
    (ap (tops xs) e2 ∙ tops_more xs (k + 1) ∙ ap (λ (zs : List ℕ). get_or xs (k + 1) 0 ∷ zs) (tops_more xs k))

-- a hook has three corners
pub hook_three : (w : DartMap) (xs : List ℕ) (h : ℕ) → IsHookOn w (tops xs h) → 3 ≤ h
hook_three w xs zero hook = absurd hook
hook_three w xs (suc zero) hook = absurd hook
hook_three w xs (suc (suc zero)) hook = absurd hook
hook_three w xs (suc (suc (suc h))) hook = omega arith

-- the hook, with its corners
pub record HookAt (w : DartMap) (xs : List ℕ) (k : ℕ) : Type 0 where
  pub left : w.angle (get_or xs (k + 2) 0) ≡ 1
  pub left_first : w.angle (get_or xs (k + 1) 0) ≡ 1
  pub right : 2 < w.angle (get_or xs k 0)

pub hook_at : (w : DartMap) (xs : List ℕ) (k : ℕ) → IsHookOn w (tops xs (k + 3)) → HookAt w xs k
hook_at w xs k hook =
    let h = subst (IsHookOn w) (tops_three xs k) hook in
    record { left = h.0; left_first = h.1; right = h.2 }

-- the corners on the stack are darts that turn
pub stack_turns : (w0 : DartMap) (face : List ℕ) (w : DartMap) (st rest : List ℕ) (o : ℕ) (rs : List (List ℕ)) → IsFaceCutting w0 face w st rest →
    AreWaiting w0 o (face ∷ rs) → (a : ℕ) → In a st → (a < w.darts) × IsCorner w a
stack_turns w0 face w st rest o rs face_cutting wait a here =
    let waiting = face_cutting.waiting o rs wait in
    let there : In a (down st rest) = in_down a st rest here in (
      in_below w.darts a (down st rest) (below_left w.darts (down st rest) (concatenated rs) waiting.below) there,
      ring_corners w a (down st rest) waiting.rings.0.0 there,
    )

-- where no hook stands uppermost, the stack is hookless
pub unhooked : (w : DartMap) (st : List ℕ) → AreCornerAngles (map w.angle st) → (IsHookOn w st → ⊥) → 1 ≤ length st →
    ((c : ℕ) (rest : List ℕ) → st ≡ c ∷ rest → HasNoHook 0 (map w.angle rest)) → HasNoHook 0 (map w.angle st)
unhooked w [] turns clear some tail = tt
unhooked w (c ∷ st) turns clear some tail =
    let hookless : HasNoHook 0 (map w.angle st) = tail c st refl in
    elim (left_or_right (w.angle c) turns.0 turns.1 turns.2) [
      | inl left ↦ hookless_left (w.angle c) (map w.angle st) left turns.3 hookless (no_hook w c st left clear)
      | inr right ↦ hookless_right (w.angle c) (map w.angle st) right hookless
    ]
  where
    no_hook : (w : DartMap) (c : ℕ) (st : List ℕ) → w.angle c ≡ 1 → (IsHookOn w (c ∷ st) → ⊥) →
        (y z : ℕ) (rest : List ℕ) → map w.angle st ≡ y ∷ z ∷ rest → y ≡ 1 → 2 < z → ⊥
    no_hook w c [] left clear y z rest said one right = cc
    no_hook w c (c1 ∷ []) left clear y z rest said one right = cc
    no_hook w c (c1 ∷ d ∷ st) left clear y z rest said one right =
        let first : w.angle c1 ≡ y = cc in
        let second : w.angle d ≡ z = cc in
        clear (left, omega (arith, first, one), omega (arith, second, right))

-- a cut at the hook that leaves its right turn straight
pub top_straight : (w0 : DartMap) (room : ℕ) (face : List ℕ) (w : DartMap) (xs : List ℕ) (k read way : ℕ) (o : ℕ) (rs : List (List ℕ)) (new : DartMap) →
    IsTop w0 room face w xs (k + 3) read → AreWaiting w0 o (face ∷ rs) → HookAt w xs k →
    IsCut w (get_or xs k 0) (w.next (get_or xs (k + 2) 0)) way new → new.angle (get_or xs k 0) ≡ 2 →
    IsTop w0 room face new (set xs k (w.darts + 2)) (k + 1) read
top_straight w0 room face w xs k read way o rs new top wait hook cut straight =
    let d : ℕ = get_or xs k 0 in
    let c1 : ℕ = get_or xs (k + 1) 0 in
    let c : ℕ = get_or xs (k + 2) 0 in
    let face_cutting : IsFaceCutting w0 face w (c ∷ c1 ∷ d ∷ tops xs k) (drop read xs) =
    subst (λ (st : List ℕ). IsFaceCutting w0 face w st (drop read xs)) (tops_three xs k) top.face_cutting in
    let after : IsFaceCutting w0 face new ((w.darts + 2) ∷ tops xs k) (drop read xs) =
    scan_cut_straight w0 face w d c1 c way (tops xs k) (drop read xs) o rs new face_cutting wait hook.left_first hook.left cut straight in
    let bite = scan_bites w0 face w d c1 c way (tops xs k) (drop read xs) o rs new face_cutting wait hook.left_first hook.left cut in
    let kept = scan_kept w0 face w d c1 c way (tops xs k) (drop read xs) o rs new face_cutting wait bite in
    let same_rest : drop read (set xs k (w.darts + 2)) ≡ drop read xs = drop-set-lt read xs k (w.darts + 2) (omega (arith, top.low)) in
    let same_tops : tops (set xs k (w.darts + 2)) (k + 1) ≡ (w.darts + 2) ∷ tops xs k =
    tops_put xs k (w.darts + 2) (omega (arith, top.low, top.inside)) in
    let hookless : HasNoHook 0 (w.angle c1 ∷ w.angle d ∷ map w.angle (tops xs k)) = below_top w xs k top.tail in
    let one_back : k + 1 - 1 ≡ k = omega arith in
    record {
      face_cutting = subst (λ (st : List ℕ). IsFaceCutting w0 face new st (drop read (set xs k (w.darts + 2)))) (sym same_tops)
          (subst (λ (rest : List ℕ). IsFaceCutting w0 face new ((w.darts + 2) ∷ tops xs k) rest) (sym same_rest) after);
      low = omega (arith, top.low);
      some = omega arith;
      inside = omega (arith, top.inside, length-set xs k (w.darts + 2));
      tail = subst (λ (j : ℕ). HasNoHook 0 (map new.angle (tops (set xs k (w.darts + 2)) j))) (sym one_back)
          (subst (λ (zs : List ℕ). HasNoHook 0 (map new.angle zs)) (sym (tops_set xs k (w.darts + 2) k (omega arith)))
          (subst (HasNoHook 0) (sym kept.stack) ((hookless.1 hook.left_first).0 hook.right).1));
      space = cut_room w d (w.next c) way room new cut top.space;
    }
  where
    below_top : (w : DartMap) (xs : List ℕ) (k : ℕ) → HasNoHook 0 (map w.angle (tops xs (k + 3 - 1))) →
        HasNoHook 0 (w.angle (get_or xs (k + 1) 0) ∷ w.angle (get_or xs k 0) ∷ map w.angle (tops xs k))
    below_top w xs k hookless =
        let e2 : k + 3 - 1 ≡ (k + 1) + 1 = omega arith in
        let e : tops xs (k + 3 - 1) ≡ get_or xs (k + 1) 0 ∷ get_or xs k 0 ∷ tops xs k =
        ap (tops xs) e2 ∙ tops_more xs (k + 1) ∙ ap (λ (zs : List ℕ). get_or xs (k + 1) 0 ∷ zs) (tops_more xs k) in
        subst (λ (zs : List ℕ). HasNoHook 0 (map w.angle zs)) e hookless

-- a cut at the hook that leaves its right turn one
pub top_turning : (w0 : DartMap) (room : ℕ) (face : List ℕ) (w : DartMap) (xs : List ℕ) (k read way : ℕ) (o : ℕ) (rs : List (List ℕ)) (new : DartMap) →
    IsTop w0 room face w xs (k + 3) read → AreWaiting w0 o (face ∷ rs) → HookAt w xs k →
    IsCut w (get_or xs k 0) (w.next (get_or xs (k + 2) 0)) way new → IsCorner new (get_or xs k 0) →
    IsTop w0 room face new (set xs (k + 1) (w.darts + 2)) (k + 2) read
top_turning w0 room face w xs k read way o rs new top wait hook cut corner =
    let d : ℕ = get_or xs k 0 in
    let c1 : ℕ = get_or xs (k + 1) 0 in
    let c : ℕ = get_or xs (k + 2) 0 in
    let x : ℕ = w.darts + 2 in
    let ys : List ℕ = set xs (k + 1) x in
    let face_cutting : IsFaceCutting w0 face w (c ∷ c1 ∷ d ∷ tops xs k) (drop read xs) =
    subst (λ (st : List ℕ). IsFaceCutting w0 face w st (drop read xs)) (tops_three xs k) top.face_cutting in
    let after : IsFaceCutting w0 face new (x ∷ d ∷ tops xs k) (drop read xs) =
    scan_cut_turning w0 face w d c1 c way (tops xs k) (drop read xs) o rs new face_cutting wait hook.left_first hook.left cut corner in
    let bite = scan_bites w0 face w d c1 c way (tops xs k) (drop read xs) o rs new face_cutting wait hook.left_first hook.left cut in
    let kept = scan_kept w0 face w d c1 c way (tops xs k) (drop read xs) o rs new face_cutting wait bite in
    let same_rest : drop read ys ≡ drop read xs = drop-set-lt read xs (k + 1) x (omega (arith, top.low)) in
    let same_tops : tops ys (k + 2) ≡ x ∷ d ∷ tops xs k =
    let e2 : k + 2 ≡ (k + 1) + 1 = omega arith in
    ap (tops ys) e2 ∙ tops_put xs (k + 1) x (omega (arith, top.low, top.inside))
    ∙ ap (λ (zs : List ℕ). x ∷ zs) (tops_more xs k) in
    let one_back : k + 2 - 1 ≡ k + 1 = omega arith in
    let same_tail : tops ys (k + 2 - 1) ≡ d ∷ tops xs k =
    ap (tops ys) one_back ∙ tops_set xs (k + 1) x (k + 1) (omega arith) ∙ tops_more xs k in
    let rights : 2 < new.angle d = beyond (new.angle d) (w.angle d) cut.chord.angle_d (cut.subdivide.angle_old d cut.d_in) cut.right corner in
    let hookless = below_top w xs k top.tail in
    record {
      face_cutting = subst (λ (st : List ℕ). IsFaceCutting w0 face new st (drop read ys)) (sym same_tops)
          (subst (λ (rest : List ℕ). IsFaceCutting w0 face new (x ∷ d ∷ tops xs k) rest) (sym same_rest) after);
      low = omega (arith, top.low);
      some = omega arith;
      inside = omega (arith, top.inside, length-set xs (k + 1) x);
      tail = subst (λ (zs : List ℕ). HasNoHook 0 (map new.angle zs)) (sym same_tail)
          (hookless_right (new.angle d) (map new.angle (tops xs k)) rights
          (subst (HasNoHook 0) (sym kept.stack) ((hookless.1 hook.left_first).0 hook.right).1));
      space = cut_room w d (w.next c) way room new cut top.space;
    }
  where
    beyond : (a b : ℕ) {m : ℕ} → a + 1 ≡ m → m ≡ b → 2 < b → a ≢ 2 → 2 < a
    beyond a b less same right other = elim (cases_lt 2 a) [ inl more ↦ more | inr low ↦ absurd (other (omega (arith, less, same, right, low))) ]

    below_top : (w : DartMap) (xs : List ℕ) (k : ℕ) → HasNoHook 0 (map w.angle (tops xs (k + 3 - 1))) →
        HasNoHook 0 (w.angle (get_or xs (k + 1) 0) ∷ w.angle (get_or xs k 0) ∷ map w.angle (tops xs k))
    below_top w xs k hookless =
        let e2 : k + 3 - 1 ≡ (k + 1) + 1 = omega arith in
        let e : tops xs (k + 3 - 1) ≡ get_or xs (k + 1) 0 ∷ get_or xs k 0 ∷ tops xs k =
        ap (tops xs) e2 ∙ tops_more xs (k + 1) ∙ ap (λ (zs : List ℕ). get_or xs (k + 1) 0 ∷ zs) (tops_more xs k) in
        subst (λ (zs : List ℕ). HasNoHook 0 (map w.angle zs)) e hookless

-- what the hook lets a cut rest on
pub top_can : (w0 : DartMap) (room : ℕ) (face : List ℕ) (w : DartMap) (xs : List ℕ) (k read : ℕ) (o : ℕ) (rs : List (List ℕ)) →
    IsTop w0 room face w xs (k + 3) read → AreWaiting w0 o (face ∷ rs) → HookAt w xs k → CanCut w (get_or xs k 0) (get_or xs (k + 2) 0)
top_can w0 room face w xs k read o rs top wait hook =
    scan_can w0 face w (get_or xs k 0) (get_or xs (k + 1) 0) (get_or xs (k + 2) 0) (tops xs k) (drop read xs) o rs
    (subst (λ (st : List ℕ). IsFaceCutting w0 face w st (drop read xs)) (tops_three xs k) top.face_cutting) wait hook.left_first hook.left hook.right

pub hook_parts : (w : DartMap) (xs : List ℕ) (h : ℕ) → IsHookOn w (tops xs h) →
    (w.angle (get_or xs (h - 1) 0) ≡ 1) × (w.angle (get_or xs (h - 2) 0) ≡ 1) × (2 < w.angle (get_or xs (h - 3) 0))
hook_parts w xs h hook =
    let three : 3 ≤ h = hook_three w xs h hook in
    let k : ℕ = h - 3 in
    let e : h ≡ k + 3 = omega arith in
    let at = hook_at w xs k (subst (λ (j : ℕ). IsHookOn w (tops xs j)) e hook) in
    let e1 : k + 2 ≡ h - 1 = omega arith in
    let e2 : k + 1 ≡ h - 2 = omega arith in
    (subst (λ (j : ℕ). w.angle (get_or xs j 0) ≡ 1) e1 at.left, subst (λ (j : ℕ). w.angle (get_or xs j 0) ≡ 1) e2 at.left_first, at.right)

pub hook_from : (w : DartMap) (xs : List ℕ) (h : ℕ) → 3 ≤ h → w.angle (get_or xs (h - 1) 0) ≡ 1 → w.angle (get_or xs (h - 2) 0) ≡ 1 →
    2 < w.angle (get_or xs (h - 3) 0) → IsHookOn w (tops xs h)
hook_from w xs h three left left_first right =
    let k : ℕ = h - 3 in
    let e : h ≡ k + 3 = omega arith in
    let e1 : h - 1 ≡ k + 2 = omega arith in
    let e2 : h - 2 ≡ k + 1 = omega arith in
    subst (λ (j : ℕ). IsHookOn w (tops xs j)) (sym e)
    (subst (IsHookOn w) (sym (tops_three xs k))
    (subst (λ (j : ℕ). w.angle (get_or xs j 0) ≡ 1) e1 left, subst (λ (j : ℕ). w.angle (get_or xs j 0) ≡ 1) e2 left_first, right))

-- the angles of the three uppermost
pub three_turns : (w : DartMap) (xs : List ℕ) (h : ℕ) → 3 ≤ h → AreCornerAngles (map w.angle (tops xs h)) →
    AreCornerAngles (w.angle (get_or xs (h - 1) 0) ∷ w.angle (get_or xs (h - 2) 0) ∷ w.angle (get_or xs (h - 3) 0) ∷ [])
three_turns w xs h three turns =
    let k : ℕ = h - 3 in
    let e : h ≡ k + 3 = omega arith in
    let e1 : k + 2 ≡ h - 1 = omega arith in
    let e2 : k + 1 ≡ h - 2 = omega arith in
    let all : AreCornerAngles (map w.angle (get_or xs (k + 2) 0 ∷ get_or xs (k + 1) 0 ∷ get_or xs k 0 ∷ tops xs k)) =
    subst (λ (st : List ℕ). AreCornerAngles (map w.angle st)) (ap (tops xs) e ∙ tops_three xs k) turns in
    subst (λ (i : ℕ). AreCornerAngles (w.angle (get_or xs i 0) ∷ w.angle (get_or xs (h - 2) 0) ∷ w.angle (get_or xs k 0) ∷ [])) e1
    (subst (λ (i : ℕ). AreCornerAngles (w.angle (get_or xs (k + 2) 0) ∷ w.angle (get_or xs i 0) ∷ w.angle (get_or xs k 0) ∷ [])) e2
    (all.0, all.1, all.2, (all.3.0, all.3.1, all.3.2, (all.3.3.0, all.3.3.1, all.3.3.2, tt))))

-- among corners, only a right turn has more right angles than two others, and only than two left turns
pub hook_compared : (top below right : ℕ) → AreCornerAngles (top ∷ below ∷ right ∷ []) → below + top < right →
    (top ≡ 1) × (below ≡ 1) × (2 < right)
hook_compared top below right turns less =
    let small : below + top < 4 = omega (arith, less, turns.3.3.1) in (
      one top below turns.0 turns.2 turns.3.0 turns.3.2 small,
      one below top turns.3.0 turns.3.2 turns.0 turns.2 (omega (arith, small)),
      omega (arith, less, turns.0, turns.3.0),
    )
  where
    one : (a b : ℕ) → 1 ≤ a → (a ≡ 2 → ⊥) → 1 ≤ b → (b ≡ 2 → ⊥) → b + a < 4 → a ≡ 1
    one a b some_a two_a some_b two_b small =
        elim (cases_lt a 2) [ inl low ↦ omega arith | inr high ↦ absurd (two_a (omega arith)) ]

-- the same steps at any height
pub can_at : (w0 : DartMap) (room : ℕ) (face : List ℕ) (w : DartMap) (xs : List ℕ) (h read : ℕ) (o : ℕ) (rs : List (List ℕ)) →
    IsTop w0 room face w xs h read → AreWaiting w0 o (face ∷ rs) → IsHookOn w (tops xs h) → CanCut w (get_or xs (h - 3) 0) (get_or xs (h - 1) 0)
can_at w0 room face w xs h read o rs top wait hook =
    let three : 3 ≤ h = hook_three w xs h hook in
    let k : ℕ = h - 3 in
    let e : h ≡ k + 3 = omega arith in
    let e1 : k + 2 ≡ h - 1 = omega arith in
    subst (λ (j : ℕ). CanCut w (get_or xs (h - 3) 0) (get_or xs j 0)) e1
    (top_can w0 room face w xs k read o rs (subst (λ (j : ℕ). IsTop w0 room face w xs j read) e top) wait
    (hook_at w xs k (subst (λ (j : ℕ). IsHookOn w (tops xs j)) e hook)))

pub straight_at : (w0 : DartMap) (room : ℕ) (face : List ℕ) (w : DartMap) (xs : List ℕ) (h read way : ℕ) (o : ℕ) (rs : List (List ℕ)) (new : DartMap) →
    IsTop w0 room face w xs h read → AreWaiting w0 o (face ∷ rs) → IsHookOn w (tops xs h) →
    IsCut w (get_or xs (h - 3) 0) (w.next (get_or xs (h - 1) 0)) way new → new.angle (get_or xs (h - 3) 0) ≡ 2 →
    IsTop w0 room face new (set xs (h - 3) (w.darts + 2)) (h - 2) read
straight_at w0 room face w xs h read way o rs new top wait hook cut straight =
    let three : 3 ≤ h = hook_three w xs h hook in
    let k : ℕ = h - 3 in
    let e : h ≡ k + 3 = omega arith in
    let e1 : h - 1 ≡ k + 2 = omega arith in
    let e2 : k + 1 ≡ h - 2 = omega arith in
    subst (λ (j : ℕ). IsTop w0 room face new (set xs k (w.darts + 2)) j read) e2
    (top_straight w0 room face w xs k read way o rs new (subst (λ (j : ℕ). IsTop w0 room face w xs j read) e top) wait
    (hook_at w xs k (subst (λ (j : ℕ). IsHookOn w (tops xs j)) e hook))
    (subst (λ (j : ℕ). IsCut w (get_or xs k 0) (w.next (get_or xs j 0)) way new) e1 cut) straight)

pub turning_at : (w0 : DartMap) (room : ℕ) (face : List ℕ) (w : DartMap) (xs : List ℕ) (h read way : ℕ) (o : ℕ) (rs : List (List ℕ)) (new : DartMap) →
    IsTop w0 room face w xs h read → AreWaiting w0 o (face ∷ rs) → IsHookOn w (tops xs h) →
    IsCut w (get_or xs (h - 3) 0) (w.next (get_or xs (h - 1) 0)) way new → IsCorner new (get_or xs (h - 3) 0) →
    IsTop w0 room face new (set xs (h - 2) (w.darts + 2)) (h - 1) read
turning_at w0 room face w xs h read way o rs new top wait hook cut corner =
    let three : 3 ≤ h = hook_three w xs h hook in
    let k : ℕ = h - 3 in
    let e : h ≡ k + 3 = omega arith in
    let e1 : h - 1 ≡ k + 2 = omega arith in
    let e2 : k + 2 ≡ h - 1 = omega arith in
    let e3 : k + 1 ≡ h - 2 = omega arith in
    subst (λ (i : ℕ). IsTop w0 room face new (set xs i (w.darts + 2)) (h - 1) read) e3
    (subst (λ (j : ℕ). IsTop w0 room face new (set xs (k + 1) (w.darts + 2)) j read) e2
    (top_turning w0 room face w xs k read way o rs new (subst (λ (j : ℕ). IsTop w0 room face w xs j read) e top) wait
    (hook_at w xs k (subst (λ (j : ℕ). IsHookOn w (tops xs j)) e hook))
    (subst (λ (j : ℕ). IsCut w (get_or xs k 0) (w.next (get_or xs j 0)) way new) e1 cut) corner))

-- the corners on the stack turn
pub turns_at : (w0 : DartMap) (room : ℕ) (face : List ℕ) (w : DartMap) (xs : List ℕ) (h read : ℕ) (o : ℕ) (rs : List (List ℕ)) →
    IsTop w0 room face w xs h read → AreWaiting w0 o (face ∷ rs) → AreCornerAngles (map w.angle (tops xs h))
turns_at w0 room face w xs h read o rs top wait =
    turns_of w (tops xs h) top.face_cutting.sound (stack_turns w0 face w (tops xs h) (drop read xs) o rs top.face_cutting wait)

-- with no hook uppermost, the whole stack is hookless
pub unhooked_at : (w0 : DartMap) (room : ℕ) (face : List ℕ) (w : DartMap) (xs : List ℕ) (h read : ℕ) (o : ℕ) (rs : List (List ℕ)) →
    IsTop w0 room face w xs h read → AreWaiting w0 o (face ∷ rs) → (IsHookOn w (tops xs h) → ⊥) → HasNoHook 0 (map w.angle (tops xs h))
unhooked_at w0 room face w xs h read o rs top wait clear =
    let k : ℕ = h - 1 in
    let some : 1 ≤ h = top.some in
    let e : h ≡ k + 1 = omega arith in
    let same : tops xs h ≡ get_or xs k 0 ∷ tops xs k = ap (tops xs) e ∙ tops_more xs k in
    let turns : AreCornerAngles (map w.angle (tops xs h)) = turns_at w0 room face w xs h read o rs top wait in
    subst (λ (st : List ℕ). HasNoHook 0 (map w.angle st)) (sym same)
    (unhooked w (get_or xs k 0 ∷ tops xs k) (subst (λ (st : List ℕ). AreCornerAngles (map w.angle st)) same turns)
    (λ hook. clear (subst (IsHookOn w) (sym same) hook)) (omega arith)
    (λ c rest e. let tail : tops xs k ≡ rest = cc in subst (λ (zs : List ℕ). HasNoHook 0 (map w.angle zs)) tail top.tail))

pub inside_put : (xs : List ℕ) (i x n m : ℕ) → All (λ a. a < n) xs → m ≡ n → x < n → All (λ a. a < m) (set xs i x)
inside_put xs i x n m all same less =
    subst (λ (k : ℕ). All (λ a. a < k) (set xs i x)) (sym same) (All-set (λ a. a < n) xs i x less all)
