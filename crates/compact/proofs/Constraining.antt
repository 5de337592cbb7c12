-- How the constraints of a dissection are gathered, dart by dart.
use Rattle.std.proofs.Common.{◌≡◌, ◌≢◌, ℕ, ◌+◌, ◌<◌, ◌≤◌, ◌⊎◌, List, [], ◌∷◌, ◌++◌, Option, Some, None, arith, subst, sym, refl, ◌∙◌, inl, inr}
use Rattle.std.proofs.lemmas.Bool.{cases_eq}
use Rattle.std.proofs.lemmas.Option.{none-some, same_Some}
use Rattle.std.proofs.lemmas.List.Elements.{All-append, All-cons, All-nil, All-pop}
use Rattle.dissect.specs.DartMaps.{DartMap, IsSound}
use Rattle.compact.specs.declared.axis.Constraint.{Constraint}
use Rattle.compact.specs.Constraints.{Satisfies}
use Rattle.compact.specs.Monotone.{tail, IsAlong, AreAlong}

-- a dart forward or across adds its constraint
pub one_more : (w : DartMap) (k d : ℕ) (constraints : List Constraint) (least : ℕ) → IsSound w → d < w.darts →
    ((w.direction d ≡ k) × (least ≡ 1)) ⊎ ((w.direction d ≢ k) × (w.direction d ≢ k + 2) × (least ≡ 0)) →
    AreAlong w k d constraints → AreAlong w k (d + 1) (constraints ++ (record { from = tail w d; to = w.head d; least = least } ∷ []))
one_more w k d constraints least sound d_in kind along =
    let constraint : Constraint = record { from = tail w d; to = w.head d; least = least } in
    let inside : (constraint.from < w.vertices) × (constraint.to < w.vertices) × (least ≤ 1) = (
      sound.meeting.head_in (w.reverse_dart d) (sound.tied.reverse_dart_in d d_in),
      sound.meeting.head_in d d_in,
      elim kind [
        | inl ahead ↦ omega (arith, ahead.1)
        | inr across ↦ omega (arith, across.2)
      ],
    ) in
    let last : (x : ℕ → ℕ) → Satisfies (constraints ++ (constraint ∷ [])) x → x constraint.from + least ≤ x constraint.to = λ x keeps.
    (All-pop (λ g. x g.from + g.least ≤ x g.to) (constraints ++ (constraint ∷ [])) constraints (Some constraint) refl keeps).1 in
    let before : (x : ℕ → ℕ) → Satisfies (constraints ++ (constraint ∷ [])) x → Satisfies constraints x = λ x keeps.
    (All-pop (λ g. x g.from + g.least ≤ x g.to) (constraints ++ (constraint ∷ [])) constraints (Some constraint) refl keeps).0 in
    record {
      inside = All-append (λ g. (g.from < w.vertices) × (g.to < w.vertices) × (g.least ≤ 1)) constraints (constraint ∷ []) along.inside
          (All-cons (λ g. (g.from < w.vertices) × (g.to < w.vertices) × (g.least ≤ 1)) constraint [] inside (All-nil (λ g. (g.from < w.vertices) × (g.to < w.vertices) × (g.least ≤ 1))));
      forward = λ x keeps a below way. elim (cases_eq a d) [
        | inl same ↦
            let here : w.direction d ≡ k = subst (λ (b : ℕ). w.direction b ≡ k) same way in
            subst (λ (b : ℕ). x (tail w b) + 1 ≤ x (w.head b)) (sym same)
            (elim kind [
              | inl ahead ↦ omega (arith, last x keeps, ahead.1)
              | inr across ↦ absurd (across.0 here)
            ])
        | inr other ↦ along.forward x (before x keeps) a (omega (arith, below, other)) way
      ];
      across = λ x keeps a below one two. elim (cases_eq a d) [
        | inl same ↦ subst (λ (b : ℕ). x (tail w b) ≤ x (w.head b)) (sym same) (omega (arith, last x keeps))
        | inr other ↦ along.across x (before x keeps) a (omega (arith, below, other)) one two
      ];
      no_more = λ x keeps. All-append (λ g. x g.from + g.least ≤ x g.to) constraints (constraint ∷ []) (along.no_more x keeps)
          (All-cons (λ g. x g.from + g.least ≤ x g.to) constraint [] (elim kind [
            | inl ahead ↦ omega (arith, keeps.forward d d_in ahead.0, ahead.1)
            | inr across ↦ omega (arith, keeps.across d d_in across.0 across.1, across.2)
          ]) (All-nil (λ g. x g.from + g.least ≤ x g.to)));
    }

-- a dart against the axis adds none
pub none_more : (w : DartMap) (k d : ℕ) (constraints : List Constraint) → w.direction d ≡ k + 2 → AreAlong w k d constraints → AreAlong w k (d + 1) constraints
none_more w k d constraints back along = record {
  inside = along.inside;
  forward = λ x keeps a below way. elim (cases_eq a d) [
    | inl same ↦
        let here : w.direction d ≡ k = subst (λ (b : ℕ). w.direction b ≡ k) same way in
        absurd (omega (arith, here, back))
    | inr other ↦ along.forward x keeps a (omega (arith, below, other)) way
  ];
  across = λ x keeps a below one two. elim (cases_eq a d) [
    | inl same ↦ absurd (two (subst (λ (b : ℕ). w.direction b ≡ k + 2) (sym same) back))
    | inr other ↦ along.across x keeps a (omega (arith, below, other)) one two
  ];
  no_more = along.no_more;
}

-- with all darts the constraints say what the axis asks
pub all_along : (w : DartMap) (k : ℕ) (constraints : List Constraint) (x : ℕ → ℕ) → AreAlong w k w.darts constraints → Satisfies constraints x → IsAlong w k x
all_along w k constraints x along keeps = record {
  forward = along.forward x keeps;
  across = along.across x keeps;
}

-- a constraint was found: the dart runs forward or across
pub constraint_found : (direction k least : ℕ) (found : Option ℕ) → (direction ≡ k → found ≡ Some 1) → (direction ≡ k + 2 → found ≡ None) →
    (direction ≢ k → direction ≢ k + 2 → found ≡ Some 0) → found ≡ Some least →
    ((direction ≡ k) × (least ≡ 1)) ⊎ ((direction ≢ k) × (direction ≢ k + 2) × (least ≡ 0))
constraint_found direction k least found forward back across is =
    elim (cases_eq direction k) [
      | inl ahead ↦ inl (ahead, same_Some least 1 (sym is ∙ forward ahead))
      | inr not_ahead ↦
          elim (cases_eq direction (k + 2)) [
            | inl behind ↦ absurd (none-some least (sym (back behind) ∙ is))
            | inr not_behind ↦ inr (not_ahead, not_behind, same_Some least 0 (sym is ∙ across not_ahead not_behind))
          ]
    ]

-- none was found: it runs against the axis
pub no_constraint_found : (direction k : ℕ) (found : Option ℕ) → (direction ≡ k → found ≡ Some 1) →
    (direction ≢ k → direction ≢ k + 2 → found ≡ Some 0) → found ≡ None → direction ≡ k + 2
no_constraint_found direction k found forward across is =
    elim (cases_eq direction k) [
      | inl ahead ↦ absurd (none-some 1 (sym is ∙ forward ahead))
      | inr not_ahead ↦
          elim (cases_eq direction (k + 2)) [
            | inl behind ↦ behind
            | inr not_behind ↦ absurd (none-some 0 (sym is ∙ across not_ahead not_behind))
          ]
    ]

-- the same, of a constraint whose parts are given one by one
pub one_pushed : (w : DartMap) (k d : ℕ) (constraints items : List Constraint) (constraint : Constraint) → IsSound w → d < w.darts → constraint.from ≡ tail w d → constraint.to ≡ w.head d →
    ((w.direction d ≡ k) × (constraint.least ≡ 1)) ⊎ ((w.direction d ≢ k) × (w.direction d ≢ k + 2) × (constraint.least ≡ 0)) →
    items ≡ constraints ++ (constraint ∷ []) → AreAlong w k d constraints → AreAlong w k (d + 1) items
one_pushed w k d constraints items constraint sound d_in from to kind pushed along =
    subst (AreAlong w k (d + 1)) (sym pushed)
    (subst (λ (a : ℕ). AreAlong w k (d + 1) (constraints ++ (record { from = a; to = constraint.to; least = constraint.least } ∷ []))) (sym from)
    (subst (λ (b : ℕ). AreAlong w k (d + 1) (constraints ++ (record { from = tail w d; to = b; least = constraint.least } ∷ []))) (sym to)
    (one_more w k d constraints constraint.least sound d_in kind along)))
