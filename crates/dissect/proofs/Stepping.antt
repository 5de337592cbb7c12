-- A map on the way to its bends stays one through each bend, each edge, and all edges.
use Rattle.std.proofs.Common.{◌≡◌, ◌≢◌, ◌⊎◌, ℕ, ◌+◌, ◌<◌, ◌≤◌, List, [], ◌∷◌, ◌∙◌, arith, sym, ap, inl, inr, refl}
use Rattle.std.proofs.lemmas.Bool.{cases_eq, cases_lt}
use Rattle.faces.specs.Planes.{PlaneModel, HasEnds, darts, reverse_dart}
use Rattle.ortho_rep.specs.declared.turn_strings.Turn.{Turn}
use Rattle.ortho_rep.specs.Turns.{mirrored}
use Rattle.dissect.specs.DartMaps.{DartMap, IsSubdivided}
use Rattle.dissect.proofs.Splitting.{by_age, split_tied, split_meeting}
use Rattle.dissect.specs.Steps.{IsBent, straight, turned, AreBent, finished, passed, bent, angle_of, start_direction}
use Rattle.dissect.proofs.Mirroring.{turn_counts}
use Rattle.dissect.proofs.OwedTurns.{IsOwing, IsOwedNext, IsNumberedNext, owed_next, numbered_next, split_face_numbers}
use Rattle.dissect.proofs.Turning.{owing_less, reflex_turns_more, turned_alike, mirrors_on, ways_on}

-- one bend
pub owing_on : (p : PlaneModel) (a h : ℕ → ℕ) (total : ℕ) (w : DartMap) (e : ℕ) (turn : Turn) (turns : List Turn) (new : DartMap)
    (face_number face_number' : ℕ → ℕ) (owed owed' : ℕ → List Turn) → IsOwing p a h total w face_number owed → e < w.darts →
    owed e ≡ turn ∷ turns → IsSubdivided w e (start_direction w e) (angle_of turn) new → IsNumberedNext w e face_number face_number' →
    IsOwedNext w e turns owed owed' → IsOwing p a h total new face_number' owed'
owing_on p a h total w e turn turns new face_number face_number' owed owed' owing e_in owes s named next =
    let tied = owing.tied in
    let way : ℕ = start_direction w e in
    let t_in : w.reverse_dart e < w.darts = tied.reverse_dart_in e e_in in
    let counts = turn_counts turn turns in
    let less = owing_less w e way turn turns new face_number face_number' owed owed' tied e_in s owes (owing.mirrors e e_in) named next in
    let inside : (x : ℕ) → x < darts p → x < w.darts = λ x l. omega (arith, l, owing.old) in
    record {
      old = omega (arith, owing.old, s.darts);
      tied = split_tied w e way (angle_of turn) new tied e_in s;
      meeting = split_meeting w e way (angle_of turn) new tied owing.meeting e_in (omega arith) counts.2 (omega (arith, counts.3)) s;
      mirrors = mirrors_on w e way turn turns new face_number face_number' owed owed' tied e_in s owes (owing.mirrors e e_in) named next owing.mirrors;
      ways = ways_on w e way turn turns new face_number face_number' owed owed' tied e_in s owes (owing.mirrors e e_in) named next refl
          owing.meeting.quarter owing.ways;
      face_numbers = split_face_numbers w e way (angle_of turn) new face_number face_number' tied e_in s named owing.face_numbers;
      named = λ x l. by_age w.darts (λ x. face_number' x < p.faces)
          (λ x l. omega (arith, named.old x l, owing.named x l))
          (omega (arith, named.at_first, owing.named e e_in)) (omega (arith, named.at_second, owing.named (w.reverse_dart e) t_in))
          x (omega (arith, s.darts));
      turns = λ f l. omega (
        arith,
        owing.turns f l,
        turned_alike w e way turn turns new face_number face_number' owed owed' tied e_in s owes (owing.mirrors e e_in) named next f,
      );
      dart_count = omega (arith, owing.dart_count, less, s.darts);
      vertex_count = omega (arith, owing.vertex_count, less, s.vertices);
      right_turns = omega (
        arith,
        owing.right_turns,
        less,
        reflex_turns_more w e way turn turns new face_number face_number' owed owed' tied e_in s owes (owing.mirrors e e_in) named next,
      );
      heads = λ x l. omega (arith, owing.heads x l, s.head_old x (inside x l));
      angles = λ x l. s.angle_old x (inside x l) ∙ owing.angles x l;
      directions = λ x l. s.direction_old x (inside x l) ∙ owing.directions x l;
      faces = λ x l. named.old x (inside x l) ∙ owing.faces x l;
    }

-- once the edge of e has its turns, no dart of that edge owes any; the other edges are as they were
pub record IsPaid (w : DartMap) (e : ℕ) (owed : ℕ → List Turn) (new : DartMap) (owed' : ℕ → List Turn) : Type 0 where
  pub more : w.darts ≤ new.darts
  pub kept_owed : (x : ℕ) → x < w.darts → x ≢ e → x ≢ w.reverse_dart e → owed' x ≡ owed x
  pub kept_reverse_dart : (x : ℕ) → x < w.darts → x ≢ e → x ≢ w.reverse_dart e → new.reverse_dart x ≡ w.reverse_dart x
  pub paid : (x : ℕ) → x < new.darts → (owed' x ≡ []) ⊎ ((x < w.darts) × (x ≢ e) × (x ≢ w.reverse_dart e))

-- one edge
pub edge_on : (p : PlaneModel) (a h : ℕ → ℕ) (total e : ℕ) (w : DartMap) (turns : List Turn) (new : DartMap) → IsBent e w turns new →
    (face_number : ℕ → ℕ) (owed : ℕ → List Turn) → IsOwing p a h total w face_number owed → e < w.darts → owed e ≡ turns →
    (face_number' : ℕ → ℕ) × (owed' : ℕ → List Turn) × IsOwing p a h total new face_number' owed' × IsPaid w e owed new owed'
edge_on p a h total e w [] new (straight _) face_number owed owing e_in owes = (
  face_number,
  owed,
  owing,
  record {
    more = omega arith;
    kept_owed = λ x l not_e not_t. refl;
    kept_reverse_dart = λ x l not_e not_t. refl;
    paid = λ x l. elim (cases_eq x e) [
      | inl at ↦ inl (ap owed at ∙ owes)
      | inr not_e ↦
          elim (cases_eq x (w.reverse_dart e)) [
            | inl at ↦ inl (ap owed at ∙ owing.mirrors e e_in ∙ ap mirrored owes)
            | inr not_t ↦ inr (l, not_e, not_t)
          ]
    ];
  },
)
edge_on p a h total e w (turn ∷ turns) new (turned _ mid _ _ _ s rest) face_number owed owing e_in owes =
    let tied = owing.tied in
    let n : ℕ = w.darts in
    let t : ℕ = w.reverse_dart e in
    let t_in : t < n = tied.reverse_dart_in e e_in in
    let (owed1, next) = owed_next w e turns owed tied e_in in
    let (face_number1, named) = numbered_next w e face_number in
    let step = owing_on p a h total w e turn turns mid face_number face_number1 owed owed1 owing e_in owes s named next in
    let (face_number2, owed2, ends, paid) = edge_on p a h total e mid turns new rest face_number1 owed1 step (omega (arith, s.darts, e_in)) next.at_e in
    let not_reverse_dart : (x : ℕ) → x < n + 1 → x ≢ mid.reverse_dart e = λ x l h. omega (arith, h ∙ s.reverse_dart_e, l) in (
      face_number2,
      owed2,
      ends,
      record {
        more = omega (arith, paid.more, s.darts);
        kept_owed = λ x l not_e not_t. paid.kept_owed x (omega (arith, l, s.darts)) not_e (not_reverse_dart x (omega (arith, l)))
            ∙ next.others x l not_e not_t;
        kept_reverse_dart = λ x l not_e not_t. paid.kept_reverse_dart x (omega (arith, l, s.darts)) not_e (not_reverse_dart x (omega (arith, l)))
            ∙ s.reverse_dart_other x l not_e not_t;
        paid = λ x l. elim (paid.paid x l) [
          | inl none ↦ inl none
          | inr (inside, not_e, not_mid) ↦
              elim (cases_lt x n) [
                | inl low ↦
                    elim (cases_eq x t) [
                      | inl at ↦ inl (paid.kept_owed x inside not_e not_mid ∙ ap owed1 at ∙ next.at_reverse_dart)
                      | inr not_t ↦ inr (low, not_e, not_t)
                    ]
                | inr high ↦
                    elim (cases_eq x n) [
                      | inl at ↦ inl (paid.kept_owed x inside not_e not_mid ∙ ap owed1 at ∙ next.at_first)
                      | inr not_n ↦ absurd (not_mid (second x high not_n inside ∙ sym s.reverse_dart_e))
                    ]
              ]
        ];
      },
    )
  where
    second : (x : ℕ) → w.darts ≤ x → x ≢ w.darts → x < mid.darts → x ≡ w.darts + 1
    second x high off inside = omega (arith, s.darts)

-- the edges whose darts are both k or more have their strings before them, the others have their turns
pub record IsBehind (p : PlaneModel) (s : ℕ → List Turn) (k : ℕ) (w : DartMap) (owed : ℕ → List Turn) : Type 0 where
  pub waits : (x : ℕ) → x < darts p → k ≤ x → k ≤ reverse_dart p x → (owed x ≡ s x) × (w.reverse_dart x ≡ reverse_dart p x)
  pub done : (x : ℕ) → x < w.darts → (owed x ≡ []) ⊎ ((x < darts p) × (k ≤ x) × (k ≤ reverse_dart p x))

-- an edge whose lesser dart is not k needs nothing at k
passed_on : (p : PlaneModel) (s : ℕ → List Turn) (k : ℕ) (w : DartMap) (owed : ℕ → List Turn) → HasEnds p → reverse_dart p k ≤ k →
    IsBehind p s k w owed → IsBehind p s (k + 1) w owed
passed_on p s k w owed ends greater behind = record {
  waits = λ x l low low_reverse_dart. behind.waits x l (omega (arith, low)) (omega (arith, low_reverse_dart));
  done = λ x l. elim (behind.done x l) [
    | inl none ↦ inl none
    | inr (inside, low, low_reverse_dart) ↦
        elim (cases_eq x k) [
          | inl at ↦ absurd (ends.reverse_dart_apart x inside (omega (arith, ap (reverse_dart p) at, at, greater, low_reverse_dart)))
          | inr off ↦
              elim (cases_eq (reverse_dart p x) k) [
                | inl at ↦
                    let back : reverse_dart p k ≡ x = sym (ap (reverse_dart p) at) ∙ ends.reverse_dart_back x inside in
                    absurd (off (omega (arith, back, greater, low)))
                | inr reverse_dart_off ↦ inr (inside, above x k low off, above (reverse_dart p x) k low_reverse_dart reverse_dart_off)
              ]
        ]
  ];
}
  where
    above : (x k : ℕ) → k ≤ x → x ≢ k → k + 1 ≤ x
    above x k low off = omega arith

-- and after the bends of its edge
bent_on : (p : PlaneModel) (s : ℕ → List Turn) (k : ℕ) (w mid : DartMap) (owed owed' : ℕ → List Turn) → HasEnds p → darts p ≤ w.darts →
    k < darts p → k < reverse_dart p k → IsBehind p s k w owed → IsPaid w k owed mid owed' → IsBehind p s (k + 1) mid owed'
bent_on p s k w mid owed owed' ends few k_in lesser behind paid =
    let reverse_dart_is : w.reverse_dart k ≡ reverse_dart p k = (behind.waits k k_in (omega arith) (omega (arith, lesser))).1 in
    let off_reverse_dart : (x : ℕ) → x < darts p → k + 1 ≤ reverse_dart p x → x ≢ w.reverse_dart k = λ x l low_reverse_dart h.
    omega (arith, low_reverse_dart, ap (reverse_dart p) (h ∙ reverse_dart_is) ∙ ends.reverse_dart_back k k_in) in
    record {
      waits = λ x l low low_reverse_dart.
          let off : x ≢ k = λ h. omega (arith, h, low) in
          let before = behind.waits x l (omega (arith, low)) (omega (arith, low_reverse_dart)) in (
            paid.kept_owed x (omega (arith, l, few)) off (off_reverse_dart x l low_reverse_dart) ∙ before.0,
            paid.kept_reverse_dart x (omega (arith, l, few)) off (off_reverse_dart x l low_reverse_dart) ∙ before.1,
          );
      done = λ x l. elim (paid.paid x l) [
        | inl none ↦ inl none
        | inr (inside, not_k, not_reverse_dart) ↦
            elim (behind.done x inside) [
              | inl none ↦ inl (paid.kept_owed x inside not_k not_reverse_dart ∙ none)
              | inr (old, low, low_reverse_dart) ↦
                  elim (cases_eq (reverse_dart p x) k) [
                    | inl at ↦ absurd (not_reverse_dart (sym (ends.reverse_dart_back x old) ∙ ap (reverse_dart p) at ∙ sym reverse_dart_is))
                    | inr reverse_dart_off ↦ inr (old, above x k low not_k, above (reverse_dart p x) k low_reverse_dart reverse_dart_off)
                  ]
            ]
      ];
    }
  where
    above : (x k : ℕ) → k ≤ x → x ≢ k → k + 1 ≤ x
    above x k low off = omega arith

-- all edges: in the end no dart owes a turn
pub edges_on : (p : PlaneModel) (a h : ℕ → ℕ) (total : ℕ) (s : ℕ → List Turn) (k : ℕ) (w new : DartMap) → HasEnds p → AreBent p s k w new →
    (face_number : ℕ → ℕ) (owed : ℕ → List Turn) → IsOwing p a h total w face_number owed → IsBehind p s k w owed →
    (face_number' : ℕ → ℕ) × (owed' : ℕ → List Turn) × IsOwing p a h total new face_number' owed' × ((x : ℕ) → x < new.darts → owed' x ≡ [])
edges_on p a h total s k w new ends (finished _ _ all) face_number owed owing behind = (
  face_number,
  owed,
  owing,
  λ x l. elim (behind.done x l) [ inl none ↦ none | inr (inside, low, low_reverse_dart) ↦ absurd (omega (arith, inside, low, all)) ],
)
edges_on p a h total s k w new ends (passed _ _ _ greater rest) face_number owed owing behind =
    edges_on p a h total s (k + 1) w new ends rest face_number owed owing (passed_on p s k w owed ends greater behind)
edges_on p a h total s k w new ends (bent _ _ mid _ k_in lesser edge rest) face_number owed owing behind =
    let owes : owed k ≡ s k = (behind.waits k k_in (omega arith) (omega (arith, lesser))).0 in
    let (face_number1, owed1, owing1, paid) = edge_on p a h total k w (s k) mid edge face_number owed owing (omega (arith, k_in, owing.old)) owes in
    edges_on p a h total s (k + 1) mid new ends rest face_number1 owed1 owing1
    (bent_on p s k w mid owed owed1 ends owing.old k_in lesser behind paid)
