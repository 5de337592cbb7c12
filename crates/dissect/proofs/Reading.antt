-- A face is read corner by corner while it is cut.
use Rattle.std.proofs.Common.{◌≡◌, ℕ, zero, suc, ◌+◌, ◌-◌, ◌<◌, ◌≤◌, ◌∙◌, List, [], ◌∷◌, ◌++◌, length, map, take, drop, get_or, set, sum, All, arith, subst, sym, ap, refl}
use Rattle.std.proofs.lemmas.List.{drop-set-lt, take-append-drop, drop_more, drop_all, drop-drop, length-take-le, length-drop, length-append}
use borrow.Rule.Slice.PartMut.{put_mid, mid_of}
use Rattle.std.proofs.lemmas.List.Elements.{All-cons}
use Rattle.std.proofs.Math.ListN.{length-set}
use Rattle.dissect.specs.Turning.{Rising, HasNoHook, IsPeak}
use Rattle.dissect.specs.DartMaps.{DartMap, IsSound, IsCutUp, same, further}
use Rattle.std.proofs.lemmas.List.Sums.{sum_by-cons}
use Rattle.dissect.specs.Faces.{Below, AreWaiting, slices_of}
use Rattle.dissect.specs.FaceCutting.{down, tops, IsFaceCutting, HasRoom, IsReading}
use Rattle.dissect.proofs.Listing.{below_append, below_left, below_right}
use Rattle.dissect.proofs.Scanning.{scan_reads}
use Rattle.dissect.proofs.Stacks.{IsTop, tops_put, tops_set}
use Rattle.dissect.proofs.Finishing.{scan_done, turned_waiting, length-map_angle}
use Rattle.dissect.proofs.Rotating.{rising_turned}

pub cut_up_on : (a b c : DartMap) → IsCutUp a b → IsCutUp b c → IsCutUp a c
cut_up_on a b c first same = first
cut_up_on a b c first (further mid new d e way more cut one) = further mid new d e way (cut_up_on a b mid first more) cut one

-- cutting goes on where it stopped
pub scan_on : (w0 w new : DartMap) (face : List ℕ) (st rest st' rest' : List ℕ) → IsFaceCutting w0 face w st rest →
    IsFaceCutting w (down st rest) new st' rest' → IsFaceCutting w0 face new st' rest'
scan_on w0 w new face st rest st' rest' first second = record {
  sound = second.sound;
  cut_up = cut_up_on w0 w new first.cut_up second.cut_up;
  waiting = λ o rs wait. second.waiting o rs (first.waiting o rs wait);
  hopeful = second.hopeful;
  rising = second.rising;
}

-- the same cutting, seen from where it stands
pub scan_here : (w0 w : DartMap) (face : List ℕ) (st rest : List ℕ) → IsFaceCutting w0 face w st rest → IsFaceCutting w (down st rest) w st rest
scan_here w0 w face st rest face_cutting = record {
  sound = face_cutting.sound;
  cut_up = same;
  waiting = λ o rs wait. wait;
  hopeful = face_cutting.hopeful;
  rising = face_cutting.rising;
}

-- one corner is put on the stack
pub reading_put : (w0 : DartMap) (face : List ℕ) (room : ℕ) (w : DartMap) (xs : List ℕ) (h read now : ℕ) → read < length xs →
    IsReading w0 face room w xs h read now →
    IsFaceCutting w0 face w (tops (set xs h (get_or xs read 0)) (h + 1)) (drop (read + 1) (set xs h (get_or xs read 0)))
reading_put w0 face room w xs h read now more reading =
    let c : ℕ = get_or xs read 0 in
    let top : tops (set xs h c) (h + 1) ≡ c ∷ tops xs h = tops_put xs h c (omega (arith, reading.low, more)) in
    let rest : drop (read + 1) (set xs h c) ≡ drop (read + 1) xs = drop-set-lt (read + 1) xs h c (omega (arith, reading.low)) in
    let apart : drop read xs ≡ c ∷ drop (read + 1) xs = drop_more xs read 0 more in
    subst (λ (st : List ℕ). IsFaceCutting w0 face w st (drop (read + 1) (set xs h c))) (sym top)
    (subst (λ (zs : List ℕ). IsFaceCutting w0 face w (c ∷ tops xs h) zs) (sym rest)
    (scan_reads w0 w face c (tops xs h) (drop (read + 1) xs)
    (subst (λ (zs : List ℕ). IsFaceCutting w0 face w (tops xs h) zs) apart reading.face_cutting)))

pub reading_top : (w0 : DartMap) (face : List ℕ) (room : ℕ) (w : DartMap) (xs : List ℕ) (h read now : ℕ) → read < length xs →
    IsReading w0 face room w xs h read now → IsTop w0 room face w (set xs h (get_or xs read 0)) (h + 1) (read + 1)
reading_top w0 face room w xs h read now more reading =
    let c : ℕ = get_or xs read 0 in
    let one_back : h + 1 - 1 ≡ h = omega arith in
    let below : tops (set xs h c) (h + 1 - 1) ≡ tops xs h = ap (tops (set xs h c)) one_back ∙ tops_set xs h c h (omega arith) in
    record {
      face_cutting = reading_put w0 face room w xs h read now more reading;
      low = omega (arith, reading.low);
      some = omega arith;
      inside = omega (arith, more, length-set xs h c);
      tail = subst (λ (st : List ℕ). HasNoHook 0 (map w.angle st)) (sym below) reading.hookless;
      space = reading.space;
    }

-- the same reading, seen from where it stands
pub reading_here : (w0 : DartMap) (face : List ℕ) (room : ℕ) (w : DartMap) (xs : List ℕ) (h read now : ℕ) → IsReading w0 face room w xs h read now →
    IsReading w (down (tops xs h) (drop read xs)) now w xs h read now
reading_here w0 face room w xs h read now reading = record {
  face_cutting = scan_here w0 w face (tops xs h) (drop read xs) reading.face_cutting;
  low = reading.low;
  inside = reading.inside;
  hookless = reading.hookless;
  space = subst (HasRoom w) (sym reading.kept) reading.space;
  kept = refl;
  darts = reading.darts;
}

-- a reading goes on where another stopped
pub reading_on : (w0 : DartMap) (face : List ℕ) (room : ℕ) (w new : DartMap) (xs zs : List ℕ) (h read now h' read' now' : ℕ) →
    IsReading w0 face room w xs h read now → IsReading w (down (tops xs h) (drop read xs)) now new zs h' read' now' →
    IsReading w0 face room new zs h' read' now'
reading_on w0 face room w new xs zs h read now h' read' now' first second = record {
  face_cutting = scan_on w0 w new face (tops xs h) (drop read xs) (tops zs h') (drop read' zs) first.face_cutting second.face_cutting;
  low = second.low;
  inside = second.inside;
  hookless = second.hookless;
  space = subst (HasRoom new) first.kept second.space;
  kept = second.kept ∙ first.kept;
  darts = second.darts;
}

-- the beginning, from the place on where the walk has turned left most
pub reading_begins : (w0 : DartMap) (face : List ℕ) (room m : ℕ) (xs : List ℕ) → IsSound w0 → (o : ℕ) (rs : List (List ℕ)) →
    AreWaiting w0 o (face ∷ rs) → HasRoom w0 room → IsPeak (map w0.angle face) m → xs ≡ drop m face ++ take m face →
    All (λ a. a < room) xs → IsReading w0 face room w0 xs 0 0 room
reading_begins w0 face room m xs sound o rs wait space peak said darts = record {
  face_cutting = record {
    sound = sound;
    cut_up = same;
    waiting = λ o rs wait. subst (λ (zs : List ℕ). AreWaiting w0 o (zs ∷ rs)) (sym said)
        (turned_waiting w0 (take m face) (drop m face) o rs
        (subst (λ (zs : List ℕ). AreWaiting w0 o (zs ∷ rs)) (sym (take-append-drop m face)) wait));
    hopeful = tt;
    rising = subst (λ (zs : List ℕ). Rising (map w0.angle zs)) (sym said)
        (subst Rising (sym (map_apart w0.angle m face))
        (rising_turned (map w0.angle face) m
        (omega (arith, wait.rings.0.1, length-map_angle w0.angle face)) peak));
  };
  low = omega arith;
  inside = omega arith;
  hookless = tt;
  space = space;
  kept = refl;
  darts = darts;
}
  where
    map_append : (f : ℕ → ℕ) (xs ys : List ℕ) → map f (xs ++ ys) ≡ map f xs ++ map f ys
    map_append f [] ys = refl
    map_append f (x ∷ xs) ys = ap (λ (zs : List ℕ). f x ∷ zs) (map_append f xs ys)

    map_take : (f : ℕ → ℕ) (m : ℕ) (xs : List ℕ) → map f (take m xs) ≡ take m (map f xs)
    map_take f zero xs = refl
    map_take f (suc m) [] = refl
    map_take f (suc m) (x ∷ xs) = ap (λ (zs : List ℕ). f x ∷ zs) (map_take f m xs)

    map_drop : (f : ℕ → ℕ) (m : ℕ) (xs : List ℕ) → map f (drop m xs) ≡ drop m (map f xs)
    map_drop f zero xs = refl
    map_drop f (suc m) [] = refl
    map_drop f (suc m) (x ∷ xs) = map_drop f m xs

    map_apart : (f : ℕ → ℕ) (m : ℕ) (xs : List ℕ) → map f (drop m xs ++ take m xs) ≡ drop m (map f xs) ++ take m (map f xs)
    map_apart f m xs =
        map_append f (drop m xs) (take m xs) ∙ ap (λ (zs : List ℕ). zs ++ map f (take m xs)) (map_drop f m xs)
        ∙ ap (λ (zs : List ℕ). drop m (map f xs) ++ zs) (map_take f m xs)

pub reading_done : (w0 : DartMap) (face : List ℕ) (room : ℕ) (w : DartMap) (xs : List ℕ) (h read now : ℕ) → length xs ≤ read →
    IsReading w0 face room w xs h read now → (o : ℕ) (rs : List (List ℕ)) → AreWaiting w0 o (face ∷ rs) → AreWaiting w o rs
reading_done w0 face room w xs h read now all reading o rs wait =
    scan_done w0 face w (tops xs h) (subst (λ (zs : List ℕ). IsFaceCutting w0 face w (tops xs h) zs) (drop_all read xs all) reading.face_cutting)
    reading.hookless o rs wait

pub all_below : (n m : ℕ) (xs : List ℕ) → n ≤ m → Below n xs → All (λ a. a < m) xs
all_below n m [] le below = λ k d l. absurd (omega arith)
all_below n m (x ∷ xs) le below =
    All-cons (λ a. a < m) x xs (omega (arith, below.0, le)) (all_below n m xs le below.1)

pub all_small : (w : DartMap) (xs : List ℕ) → IsSound w → Below w.darts xs → All (λ a. w.angle a ≤ 4) xs
all_small w xs sound below = λ k d l. sound.meeting.most (get_or xs k d) (all_below w.darts w.darts xs (omega arith) below k d l)

pub below_turned : (n m : ℕ) (xs : List ℕ) → Below n xs → Below n (drop m xs ++ take m xs)
below_turned n m xs below =
    let apart : Below n (take m xs ++ drop m xs) = subst (Below n) (sym (take-append-drop m xs)) below in
    below_append n (drop m xs) (take m xs) (below_right n (take m xs) (drop m xs) apart) (below_left n (take m xs) (drop m xs) apart)

-- the first of the pieces, and the others
pub pieces_apart : (w : DartMap) (xs ns : List ℕ) (start i o : ℕ) → i < length ns → AreWaiting w o (slices_of (drop start xs) (drop i ns)) →
    AreWaiting w o (take (start + get_or ns i 0 - start) (drop start xs) ∷ slices_of (drop (start + get_or ns i 0) xs) (drop (i + 1) ns))
pieces_apart w xs ns start i o more waiting =
    let n : ℕ = get_or ns i 0 in
    let first : AreWaiting w o (take n (drop start xs) ∷ slices_of (drop n (drop start xs)) (drop (i + 1) ns)) =
    subst (λ (zs : List ℕ). AreWaiting w o (slices_of (drop start xs) zs)) (drop_more ns i 0 more) waiting in
    let count : n ≡ start + n - start = omega arith in
    subst (λ (k : ℕ). AreWaiting w o (take k (drop start xs) ∷ slices_of (drop (start + n) xs) (drop (i + 1) ns))) count
    (subst (λ (zs : List ℕ). AreWaiting w o (take n (drop start xs) ∷ slices_of zs (drop (i + 1) ns))) (drop-drop n start xs) first)

pub sum_apart : (ns : List ℕ) (i : ℕ) → i < length ns → sum (drop i ns) ≡ get_or ns i 0 + sum (drop (i + 1) ns)
sum_apart ns i more = ap sum (drop_more ns i 0 more) ∙ sum_by-cons (λ (n : ℕ). n) (get_or ns i 0) (drop (i + 1) ns)

pub length-mid_of : (a k : ℕ) (xs : List ℕ) → a + k ≤ length xs → length (mid_of a k xs) ≡ k
length-mid_of a k xs within = length-take-le k (drop a xs) (omega (arith, length-drop a xs, within))

pub length-put_mid : (a k : ℕ) (xs ys : List ℕ) → a + k ≤ length xs → length ys ≡ k → length (put_mid a k xs ys) ≡ length xs
length-put_mid a k xs ys within long =
    let rest : length (drop k (drop a xs)) ≡ length xs - (a + k) = ap length (drop-drop k a xs) ∙ length-drop (a + k) xs in
    omega (
      arith,
      length-append (take a xs) (ys ++ drop k (drop a xs)),
      length-append ys (drop k (drop a xs)),
      length-take-le a xs (omega (arith, within)),
      rest,
      long,
      within,
    )
