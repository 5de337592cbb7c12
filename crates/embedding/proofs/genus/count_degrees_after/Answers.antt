use Rattle.std.proofs.Common.{◌≡◌, ℕ, ◌+◌, ◌-◌, ◌*◌, ◌<◌, List, ◌++◌, length, take, drop, get_or, refl, sym, ap, ◌∙◌, subst, arith}
use Rattle.std.proofs.lemmas.List.{get_or-drop, take_all, take_at, length-drop}
use Rattle.embedding.specs.Faces.{degree_in}
use Rattle.embedding.specs.Walk.{at}
use Rattle.embedding.proofs.Faced.{faces_within, faces_counted, behind_is, same_degree}
use Rattle.embedding.proofs.genus.count_degrees_after.Goals as goal

pub count_degrees-requires-clause-few : goal.count_degrees-requires-clause-few
count_degrees-requires-clause-few c =
    let cut = c.split_at_mut-front in
    let size : length (drop (2 * c.args.darts) cut.result.0.now) ≡ c.args.darts =
    ap (λ (l : List ℕ). length (drop (2 * c.args.darts) l)) cut.ensures.front ∙ faces_counted c.args.table.now c.args.darts c.requires.size in
    omega (arith, size, c.requires.few)

pub count_degrees-requires-clause-named : goal.count_degrees-requires-clause-named
count_degrees-requires-clause-named c =
    let cut = c.split_at_mut-front in
    let n = c.args.darts in
    let size : length (drop (2 * n) cut.result.0.now) ≡ n =
    ap (λ (l : List ℕ). length (drop (2 * n) l)) cut.ensures.front ∙ faces_counted c.args.table.now n c.requires.size in
    let part = take (length cut.result.0.now - 2 * n) (drop (2 * n) cut.result.0.now) in
    let same : part ≡ drop (2 * n) cut.result.0.now = take_all _ _ (omega (arith, length-drop (2 * n) cut.result.0.now)) in
    λ d below.
    let inside : d < n = omega (arith, below, ap length same, size) in
    let is : get_or part d 0 ≡ get_or c.args.table.now (2 * n + d) 0 =
    ap (λ (l : List ℕ). get_or l d 0) same ∙ ap (λ (l : List ℕ). get_or (drop (2 * n) l) d 0) cut.ensures.front ∙ faces_within c.args.table.now n d inside in
    omega (arith, is, c.requires.named d inside, cut.ensures.back_len)

pub count_degrees-requires-clause-none : goal.count_degrees-requires-clause-none
count_degrees-requires-clause-none c =
    let cut = c.split_at_mut-front in
    λ k below.
    ap (λ (l : List ℕ). get_or l k 0) cut.ensures.back ∙ get_or-drop (3 * c.args.darts) c.args.table.now k 0 ∙ c.requires.none k (omega (arith, below, cut.ensures.back_len))

pub returns-clause-front : goal.returns-clause-front
returns-clause-front c =
    let cut = c.split_at_mut-front in
    take_at cut.result.0.now c.count_degrees.new.degrees (3 * c.args.darts) cut.ensures.front_len ∙ cut.ensures.front

pub returns-clause-degrees : goal.returns-clause-degrees
returns-clause-degrees c =
    let cut = c.split_at_mut-front in
    let n = c.args.darts in
    let table = c.args.table.now in
    let faces = drop (2 * n) cut.result.0.now in
    let size : length faces ≡ n =
    ap (λ (l : List ℕ). length (drop (2 * n) l)) cut.ensures.front ∙ faces_counted table n c.requires.size in
    let is : (d : ℕ) → d < n → get_or faces d 0 ≡ get_or table (2 * n + d) 0 =
    λ d inside. ap (λ (l : List ℕ). get_or (drop (2 * n) l) d 0) cut.ensures.front ∙ faces_within table n d inside in
    let part = take (length cut.result.0.now - 2 * n) (drop (2 * n) cut.result.0.now) in
    let same : part ≡ faces = take_all _ _ (omega (arith, length-drop (2 * n) cut.result.0.now)) in
    λ k below.
    behind_is cut.result.0.now c.count_degrees.new.degrees (cut.result.0.now ++ c.count_degrees.new.degrees) (3 * n) k cut.ensures.front_len refl
    ∙ c.count_degrees.ensures.degrees k (omega (arith, below, cut.ensures.back_len))
    ∙ ap (λ (l : List ℕ). degree_in (length l) (at l) k) same
    ∙ ap (λ (m : ℕ). degree_in m (at faces) k) size
    ∙ same_degree n (λ d. get_or table (2 * n + d) 0) (at faces) k is
