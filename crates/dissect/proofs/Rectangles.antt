-- A map in its rectangle: the sides and the bridge stay straight chains of darts, whatever is cut.
use Rattle.std.proofs.Common.{◌≡◌, ℕ, ◌+◌, ◌<◌, ◌∙◌, [], ◌∷◌, arith, subst, sym, ap, refl, inl, inr}
use Rattle.dissect.specs.DartMaps.{DartMap, IsTied}
use Rattle.dissect.specs.Faces.{In, AreWaiting}
use Rattle.dissect.specs.Paths.{HasPath}
use Rattle.dissect.specs.Surrounds.{IsEnclosed}
use Rattle.dissect.proofs.Splitting.{split_tied}
use Rattle.dissect.proofs.Lengthening.{path_doubled, longer_end}
use Rattle.dissect.proofs.Splits.{split_doubled}
use Rattle.dissect.proofs.StayingConnected.{cut_tied}
use Rattle.dissect.proofs.Cuts.{AreQuarters, cut_quarters, chord_beside}
use Rattle.dissect.proofs.SurroundedPaths.{surrounded_tied, surrounded_quarters}
use Rattle.dissect.proofs.Sides.{HasChain, beside_chain, cut_chain, cut_up_chain}
use Rattle.dissect.specs.Rectangle.{HasRectangle, IsBridgedAt}
use Rattle.dissect.proofs.Keeping.{Keeps, cut_keeps, cut_up_keeps, keeps_on}

module _ (w : DartMap) (outside : ℕ) (new : DartMap) (tied : IsTied w) (four : AreQuarters w) (e : IsEnclosed w outside new) where
  abbrev n : ℕ
  n = w.darts

  abbrev side_dart : ℕ
  side_dart = w.darts + e.side

  tied_surrounded : IsTied e.surrounded
  tied_surrounded = surrounded_tied w e.surrounded tied e.surround

  four_surrounded : AreQuarters e.surrounded
  four_surrounded = surrounded_quarters w e.surrounded four e.surround

  tied_bridged : IsTied e.bridged
  tied_bridged = cut_tied e.surrounded e.right side_dart e.direction e.bridged tied_surrounded e.bridge

  four_bridged : AreQuarters e.bridged
  four_bridged = cut_quarters e.surrounded e.right side_dart e.direction e.bridged four_surrounded e.bridge

  -- a chain of the surrounded map is one of the last
  surrounded_chain : (end reverse_dart held : ℕ) → HasChain e.surrounded end reverse_dart held [] → HasChain new end reverse_dart held []
  surrounded_chain end reverse_dart held chain =
      cut_up_chain e.bridged new end reverse_dart held [] tied_bridged four_bridged e.cut_up
      (cut_chain e.surrounded e.right side_dart e.direction e.bridged end reverse_dart held [] tied_surrounded (four_surrounded side_dart e.bridge.e_in) e.bridge chain)

  -- and so is a chain of the connected map
  bridged_chain : (end reverse_dart held : ℕ) → HasChain e.bridged end reverse_dart held [] → HasChain new end reverse_dart held []
  bridged_chain end reverse_dart held chain = cut_up_chain e.bridged new end reverse_dart held [] tied_bridged four_bridged e.cut_up chain

  keeps_bridged : Keeps e.bridged new
  keeps_bridged = cut_up_keeps e.bridged new e.cut_up

  keeps_surrounded : Keeps e.surrounded new
  keeps_surrounded = keeps_on e.surrounded e.bridged new (cut_keeps e.surrounded e.right side_dart e.direction e.bridged e.bridge) keeps_bridged

  count_surrounded : e.surrounded.darts ≡ n + 8
  count_surrounded = e.surround.darts

  count_middle : e.bridge.middle.darts ≡ n + 10
  count_middle = omega (arith, e.bridge.subdivide.darts, e.surround.darts)

  inner_chain : (k : ℕ) → k < 4 → HasPath new (n + k) (n + 4 + k) []
  inner_chain k l =
      (surrounded_chain (n + k) (n + 4 + k) (n + k) (record {
        path = record {
          first = n + k;
          rest = [];
          path = record {
            first_in = omega (arith, e.surround.darts);
            rest_in = tt;
            start = e.surround.before_inside k l;
            follows = tt;
            ends = refl;
          };
          back = e.surround.reverse_dart_inside k l;
          turns = refl;
        };
        holds = inl refl;
      })).path

  outer_chain : (k : ℕ) → k < 4 → HasPath new (n + 4 + k) (n + k) []
  outer_chain k l =
      (surrounded_chain (n + 4 + k) (n + k) (n + 4 + k) (record {
        path = record {
          first = n + 4 + k;
          rest = [];
          path = record {
            first_in = omega (arith, e.surround.darts);
            rest_in = tt;
            start = e.surround.before_outside k l;
            follows = tt;
            ends = refl;
          };
          back = e.surround.reverse_dart_outside k l;
          turns = refl;
        };
        holds = inl refl;
      })).path

  -- the rectangle stands round the map
  pub rectangle : ((k : ℕ) → k < 4 → AreWaiting new (n + 4 + k) []) → HasRectangle w new
  rectangle done = record {
    sides = λ k l. record { there = inner_chain k l; again = outer_chain k l };
    directions = λ k l. keeps_surrounded.direction (n + k) (omega (arith, e.surround.darts)) ∙ e.surround.direction_inside k l;
    inside = λ k l. keeps_surrounded.head (n + k) (omega (arith, e.surround.darts)) ∙ e.surround.head_inside k l;
    corners = λ k l. keeps_surrounded.head (n + 4 + k) (omega (arith, e.surround.darts)) ∙ e.surround.head_outside k l;
    outside = λ k l.
        let at = done k l in
        let first : AreWaiting new (n + 4) [] =
        subst (λ (z : ℕ). AreWaiting new z []) (omega arith) (done 0 (omega arith)) in
        elim (first.placed (n + 4 + k) at.inside (λ straight. omega (arith, straight, at.outside.angle_first))) [
          | inl none ↦ absurd none
          | inr placed ↦ elim placed [
            | inl four ↦ absurd (omega (arith, four.angle_first, at.outside.angle_first))
            | inr out ↦ out
          ]
        ];
  }

  -- the bridge, before anything else is cut
  bridge_chain : HasPath e.bridged (n + 10) (n + 11) []
  bridge_chain =
      let first : e.bridge.middle.darts ≡ n + 10 = count_middle in
      let second : e.bridge.middle.darts + 1 ≡ n + 11 = omega (arith, count_middle) in
      record {
        first = n + 10;
        rest = [];
        path = record {
          first_in = omega (arith, e.bridge.chord.darts, count_middle);
          rest_in = tt;
          start = ap e.bridged.before (sym first) ∙ e.bridge.chord.before_there;
          follows = tt;
          ends = refl;
        };
        back = ap e.bridged.reverse_dart (sym first) ∙ e.bridge.chord.reverse_dart_there ∙ second;
        turns = refl;
      }

  bridge_chain_back : HasPath e.bridged (n + 11) (n + 10) []
  bridge_chain_back =
      let first : e.bridge.middle.darts ≡ n + 10 = count_middle in
      let second : e.bridge.middle.darts + 1 ≡ n + 11 = omega (arith, count_middle) in
      record {
        first = n + 11;
        rest = [];
        path = record {
          first_in = omega (arith, e.bridge.chord.darts, count_middle);
          rest_in = tt;
          start = ap e.bridged.before (sym second) ∙ e.bridge.chord.before_back;
          follows = tt;
          ends = refl;
        };
        back = ap e.bridged.reverse_dart (sym second) ∙ e.bridge.chord.reverse_dart_back ∙ first;
        turns = refl;
      }

  -- the side that was cut goes through the end of the bridge
  side_chain : HasChain new side_dart (n + 4 + e.side) e.surrounded.darts []
  side_chain =
      bridged_chain side_dart (n + 4 + e.side) e.surrounded.darts
      (beside_chain e.bridge.middle e.bridged side_dart (n + 4 + e.side) e.surrounded.darts []
      (chord_beside e.bridge.middle e.right e.surrounded.darts e.direction e.bridged
      (split_tied e.surrounded side_dart (e.surrounded.direction side_dart) 2 e.bridge.middle tied_surrounded e.bridge.e_in e.bridge.subdivide) e.bridge.chord)
      (record {
        path = path_doubled e.surrounded e.bridge.middle side_dart (n + 4 + e.side) side_dart e.surrounded.darts 0 [] []
            (record {
              first_in = e.bridge.e_in;
              rest_in = tt;
              start = e.surround.before_inside e.side e.side_in;
              follows = tt;
              ends = refl;
            })
            (e.surround.reverse_dart_inside e.side e.side_in)
            (split_doubled e.surrounded side_dart (e.surrounded.direction side_dart) 2 0 e.bridge.middle tied_surrounded e.bridge.e_in
            (four_surrounded side_dart e.bridge.e_in) (omega arith) refl e.bridge.subdivide)
            (longer_end e.surrounded e.bridge.middle side_dart);
        holds = inl refl;
      }))

  -- the map is connected with the rectangle at the head of the right turn
  pub bridge : IsBridgedAt w e.right new
  unfolding bridge_chain bridge_chain_back
  bridge =
      let first : e.bridge.middle.darts ≡ n + 10 = count_middle in
      let second : e.bridge.middle.darts + 1 ≡ n + 11 = omega (arith, count_middle) in
      let there_in : n + 10 < e.bridged.darts = omega (arith, e.bridge.chord.darts, count_middle) in
      let back_in : n + 11 < e.bridged.darts = omega (arith, e.bridge.chord.darts, count_middle) in
      let place_in : n + 8 < e.bridged.darts = omega (arith, e.bridge.chord.darts, count_middle) in
      let right_surrounded : e.right < e.surrounded.darts = omega (arith, e.right_in, e.surround.darts) in
      let way : new.direction (n + 10) ≡ e.direction =
      keeps_bridged.direction (n + 10) there_in ∙ ap e.bridged.direction (sym first) ∙ e.bridge.chord.direction_there in
      let right_way : new.direction e.right ≡ w.direction e.right =
      keeps_surrounded.direction e.right right_surrounded ∙ e.surround.direction_old e.right e.right_in in
      let middle_way : e.bridge.middle.direction e.right ≡ w.direction e.right =
      e.bridge.subdivide.direction_old e.right right_surrounded ∙ e.surround.direction_old e.right e.right_in in
      let middle_angle : e.bridge.middle.angle e.right ≡ w.angle e.right =
      e.bridge.subdivide.angle_old e.right right_surrounded ∙ e.surround.angle_old e.right e.right_in in
      let right_head : new.head e.right ≡ e.bridge.middle.head e.right =
      keeps_surrounded.head e.right right_surrounded ∙ sym (e.bridge.subdivide.head_old e.right right_surrounded) in
      record {
        chain = record {
          there = (bridged_chain (n + 10) (n + 11) (n + 10) (record { path = bridge_chain; holds = inl refl })).path;
          again = (bridged_chain (n + 11) (n + 10) (n + 11) (record { path = bridge_chain_back; holds = inl refl })).path;
        };
        from = keeps_bridged.head (n + 11) back_in ∙ ap e.bridged.head (sym second) ∙ e.bridge.chord.head_back ∙ sym right_head;
        leaves = omega (arith, way, right_way, middle_way, middle_angle, e.bridge.fits.from_d);
        side = e.side;
        side_in = e.side_in;
        meets = omega (
          arith,
          way,
          e.side_in,
          e.bridge.fits.to_f,
          e.bridge.subdivide.angle_first,
          e.bridge.subdivide.direction_first,
          e.surround.direction_inside e.side e.side_in,
        );
        to = keeps_bridged.head (n + 10) there_in ∙ ap e.bridged.head (sym first) ∙ e.bridge.chord.head_there
            ∙ ap e.bridge.middle.head count_surrounded
            ∙ sym (e.bridge.chord.head_old (n + 8) (omega (arith, count_middle)))
            ∙ sym (keeps_bridged.head (n + 8) place_in);
        on_side = record {
          first = side_chain.path.first;
          rest = side_chain.path.rest;
          path = side_chain.path.path;
          passes = subst (λ (z : ℕ). In z (side_chain.path.first ∷ side_chain.path.rest)) count_surrounded side_chain.holds;
          before_end = λ same. omega (arith, same, e.side_in);
        };
      }
