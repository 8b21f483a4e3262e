-- The points of a layout as members of its list: each is within the listing, has a point after it, and is found at its address.
use Rattle.std.proofs.Common.{◌≡◌, ℕ, zero, suc, ◌+◌, ◌<◌, ◌≤◌, Bool, true, false, eqb, List, [], ◌∷◌, length, sym, refl, ap, ◌∙◌, arith, eq-eqb, ne_eqb, eqb-true}
use mathlib.Core.List.Memᴰ
use mathlib.Core.List.{Memᴰ}
use Rattle.std.specs.Bool.{if◌then◌else◌}
use Rattle.word.proofs.Cases.{cases}
use Rattle.record.specs.declared.Record.{Record}
use Rattle.flow.specs.Flow.{way, fills}
use Rattle.layout.specs.declared.Point.{Point}
use Rattle.layout.specs.Layout.{Sought, AtAddress, At, Nowhere, Stands, End, Stray, Met, Onward, AtEnd, Refusal, start, meets, followed, walk, layout, sought, standing, standing_at, at_address}
use Rattle.layout.proofs.Points.{Within, within_start, within_next, rises, walk_from, walk_more, walk_end, walk_refused}

-- a point of the layout
abbrev pub On : List ℕ → ℕ → Point → Type 0
On listing base p = Memᴰ p (layout listing base)

-- ---- any list of points
pub sought_member : (address : ℕ) (ps : List Point) (p : Point) → sought address ps ≡ At p → Memᴰ p ps × (p.address.0 ≡ address)
unfolding sought
sought_member address [] p e = let z : ◌≡◌ {A = ℕ} 0 1 = cc in absurd (omega arith)
sought_member address (q ∷ ps) p e = go (λ f. sought_member address ps p f) (eqb q.address.0 address) refl e
  where
    go : (sought address ps ≡ At p → Memᴰ p ps × (p.address.0 ≡ address)) → (t : Bool) → eqb q.address.0 address ≡ t
        → ◌≡◌ {A = Sought} (if t then At q else sought address ps) (At p) → Memᴰ p (q ∷ ps) × (p.address.0 ≡ address)
    go rest true t e =
        let f : q ≡ p = cc in
        (Memᴰ.head (sym f), ap (λ (x : Point). x.address.0) (sym f) ∙ eqb-true q.address.0 address t)
    go rest false t e = let m = rest e in (Memᴰ.tail m.0, m.1)

-- addresses rise, so none of the points from one on has a lower address
none_below : (listing : List ℕ) (address count : ℕ) (p : Point) → address < p.address.0 → sought address (walk count listing p) ≡ Nowhere
unfolding walk sought
none_below listing address zero p h = refl
none_below listing address (suc count) p h =
    rw (ne_eqb p.address.0 address (λ e. omega arith)) (go (λ q l. none_below listing address count q l) (meets listing p) refl)
  where
    go : ((q : Point) → address < q.address.0 → sought address (walk count listing q) ≡ Nowhere)
        → (t : Met) → meets listing p ≡ t → sought address (followed t (walk count listing)) ≡ Nowhere
    go rest (Onward r q) e = rest q (omega (arith, rises listing p r q e))
    go rest AtEnd e = refl
    go rest (Refusal number) e = refl

-- ---- the walk from a point
module _ (listing : List ℕ) (base : ℕ) where
  -- a member of a walk is its first point, or a member of the walk from the next
  first_or_later : (count : ℕ) (s p : Point) (C : Type 0) → (p ≡ s → C)
      → ((r : Record) (q : Point) → meets listing s ≡ Onward r q → Memᴰ p (walk count listing q) → C)
      → Memᴰ p (walk (suc count) listing s) → C
  unfolding walk
  first_or_later count s p C first later m = cases (Memᴰ.cases_cons m) first (go (meets listing s) refl)
    where
      go : (t : Met) → meets listing s ≡ t → Memᴰ p (followed t (walk count listing)) → C
      go (Onward r q) e n = later r q e n
      go AtEnd e n = absurd (Memᴰ.not-nil n)
      go (Refusal number) e n = absurd (Memᴰ.not-nil n)

  none : (s p : Point) → Memᴰ p (walk zero listing s) → ⊥
  unfolding walk
  none s p m = Memᴰ.not-nil m

  -- what holds of the first point, and of each point after one, holds of every member
  member_holds : (P : Point → Type 0) → ((x : Point) (r : Record) (y : Point) → meets listing x ≡ Onward r y → P x → P y)
      → (count : ℕ) (s p : Point) → P s → Memᴰ p (walk count listing s) → P p
  member_holds P step zero s p h m = absurd (none s p m)
  member_holds P step (suc count) s p h m =
      first_or_later count s p (P p) (λ e. rw e h) (λ r q e n. member_holds P step count q p (step s r q e h) n) m

  member_above : (count : ℕ) (s p : Point) → Memᴰ p (walk count listing s) → s.address.0 ≤ p.address.0
  member_above zero s p m = absurd (none s p m)
  member_above (suc count) s p m =
      first_or_later count s p (s.address.0 ≤ p.address.0) (λ e. rw e (omega arith))
      (λ r q e n. omega (arith, member_above count q p n, rises listing s r q e)) m

  -- where the count is enough for the rest of the listing, the walk goes on to the next point
  member_next : (count : ℕ) (s p : Point) → Within listing base s → length listing < count + s.place.0 → Memᴰ p (walk count listing s)
      → (r : Record) (q : Point) → meets listing p ≡ Onward r q → Memᴰ q (walk count listing s)
  member_next zero s p w h m r q e = absurd (none s p m)
  member_next (suc count) s p w h m r q e =
      first_or_later count s p (Memᴰ q (walk (suc count) listing s)) (λ f. here (rw f at e))
      (λ x y g n.
      let on = member_next count y p (within_next listing s x y g base w) (omega (arith, rises listing s x y g)) n r q e in
      rw (walk_more listing s count x y g) (Memᴰ.tail on)) m
    where
      here : meets listing s ≡ Onward r q → Memᴰ q (walk (suc count) listing s)
      here g =
          let enough : 0 < count = omega (arith, (within_next listing s r q g base w).inside, rises listing s r q g) in
          rw (walk_more listing s count r q g, walk_from listing q count enough) (Memᴰ.tail (Memᴰ.head refl))

  sought_later : (address count : ℕ) (s : Point) (r : Record) (q : Point) → meets listing s ≡ Onward r q → s.address.0 < address
      → sought address (walk (suc count) listing s) ≡ sought address (walk count listing q)
  unfolding sought
  sought_later address count s r q e h = rw (walk_more listing s count r q e, ne_eqb s.address.0 address (λ z. omega arith))

  sought_first : (count : ℕ) (s : Point) → sought s.address.0 (walk (suc count) listing s) ≡ At s
  unfolding walk sought
  sought_first count s = rw (eq-eqb s.address.0 s.address.0 refl)

  -- addresses rise, so a member is the first at its address
  member_sought : (count : ℕ) (s p : Point) → Memᴰ p (walk count listing s) → sought p.address.0 (walk count listing s) ≡ At p
  member_sought zero s p m = absurd (none s p m)
  member_sought (suc count) s p m =
      first_or_later count s p (sought p.address.0 (walk (suc count) listing s) ≡ At p) (λ e. rw e (sought_first count s))
      (λ r q e n.
      sought_later p.address.0 count s r q e (omega (arith, member_above count q p n, rises listing s r q e)) ∙ member_sought count q p n) m

  sought_last : (address count : ℕ) (s : Point) → walk (suc count) listing s ≡ s ∷ [] → s.address.0 < address
      → sought address (walk (suc count) listing s) ≡ Nowhere
  unfolding sought
  sought_last address count s e h = rw (e, ne_eqb s.address.0 address (λ z. omega arith))

  -- and none is between that of a member and the next
  first_gap : (address count : ℕ) (s : Point) → s.address.0 < address
      → ((r : Record) (q : Point) → meets listing s ≡ Onward r q → address < q.address.0) → sought address (walk (suc count) listing s) ≡ Nowhere
  first_gap address count s low high = go (meets listing s) refl
    where
      go : (t : Met) → meets listing s ≡ t → sought address (walk (suc count) listing s) ≡ Nowhere
      go (Onward r q) e = sought_later address count s r q e low ∙ none_below listing address count q (high r q e)
      go AtEnd e = sought_last address count s (walk_end listing s (suc count) (omega arith) e) low
      go (Refusal number) e = sought_last address count s (walk_refused listing s (suc count) (omega arith) number e) low

  sought_gap : (address count : ℕ) (s p : Point) → Memᴰ p (walk count listing s) → p.address.0 < address
      → ((r : Record) (q : Point) → meets listing p ≡ Onward r q → address < q.address.0) → sought address (walk count listing s) ≡ Nowhere
  sought_gap address zero s p m low high = absurd (none s p m)
  sought_gap address (suc count) s p m low high =
      first_or_later count s p (sought address (walk (suc count) listing s) ≡ Nowhere)
      (λ e. first_gap address count s (rw e at low) (rw e at high))
      (λ r q e n.
      sought_later address count s r q e (omega (arith, member_above count q p n, rises listing s r q e)) ∙ sought_gap address count q p n low high) m

  -- ---- the layout
  pub start_on : On listing base (start base)
  unfolding layout walk
  start_on = let e : length listing + 1 ≡ suc (length listing) = omega arith in rw e (Memᴰ.head refl)

  pub on_holds : (P : Point → Type 0) → P (start base) → ((x : Point) (r : Record) (y : Point) → meets listing x ≡ Onward r y → P x → P y)
      → (p : Point) → On listing base p → P p
  unfolding layout
  on_holds P first step p o = member_holds P step (length listing + 1) (start base) p first o

  module _ (p : Point) (o : On listing base p) where
    pub on_within : Within listing base p
    on_within = on_holds (Within listing base) (within_start listing base) (λ x r y e w. within_next listing x r y e base w) p o

    pub next_on : (r : Record) (q : Point) → meets listing p ≡ Onward r q → On listing base q
    unfolding layout start
    next_on = member_next (length listing + 1) (start base) p (within_start listing base) (omega arith) o

    -- what stands at its address is what it holds
    pub on_found : at_address listing base p.address.0 ≡ standing (meets listing p) p
    unfolding at_address standing_at layout
    on_found = rw (member_sought (length listing + 1) (start base) p o)

    -- and nothing stands between its address and the next
    pub on_gap : (address : ℕ) → p.address.0 < address → ((r : Record) (q : Point) → meets listing p ≡ Onward r q → address < q.address.0)
        → at_address listing base address ≡ Stray
    unfolding at_address standing_at layout
    on_gap address low high = rw (sought_gap address (length listing + 1) (start base) p o low high)

  -- nor below the first
  pub below_start : (address : ℕ) → address < base → at_address listing base address ≡ Stray
  unfolding at_address standing_at layout start
  below_start address h = rw (none_below listing address (length listing + 1) (start base) h)

  -- a record that was found at an address stands at a point of the layout
  pub record Standing (address : ℕ) (r : Record) (p : Point) : Type 0 where
    pub on : On listing base p
    pub at : p.address.0 ≡ address
    pub next : Point
    pub goes : meets listing p ≡ Onward r next
    pub steps : fills (way r) ≡ false

  pub record Ending (address : ℕ) : Type 0 where
    pub point : Point
    pub on : On listing base point
    pub at : point.address.0 ≡ address
    pub ends : meets listing point ≡ AtEnd

  module _ (address : ℕ) where
    pub stands_on : (r : Record) (p : Point) → at_address listing base address ≡ Stands r p → Standing address r p
    unfolding at_address standing_at standing
    stands_on r p = found (sought address (layout listing base)) refl
      where
        met : (q : Point) → On listing base q × (q.address.0 ≡ address) → (t : Met) → meets listing q ≡ t → standing t q ≡ Stands r p → Standing address r p
        met q m (Onward x y) e f = go (fills (way x)) refl f
          where
            go : (t : Bool) → fills (way x) ≡ t → ◌≡◌ {A = AtAddress} (if t then Stray else Stands x q) (Stands r p) → Standing address r p
            go true t f = let z : ◌≡◌ {A = ℕ} 0 1 = cc in absurd (omega arith)
            go false t f =
                let same : q ≡ p = cc in
                let this : x ≡ r = cc in
                rw (← same, ← this) (record { on = m.0; at = m.1; next = y; goes = e; steps = t })
        met q m AtEnd e f = let z : ◌≡◌ {A = ℕ} 0 1 = cc in absurd (omega arith)
        met q m (Refusal number) e f = let z : ◌≡◌ {A = ℕ} 0 1 = cc in absurd (omega arith)

        found : (x : Sought) → sought address (layout listing base) ≡ x → standing_at listing x ≡ Stands r p → Standing address r p
        found (At q) e f = met q (sought_member address (layout listing base) q e) (meets listing q) refl f
        found Nowhere e f = let z : ◌≡◌ {A = ℕ} 0 1 = cc in absurd (omega arith)

    pub ends_on : at_address listing base address ≡ End → Ending address
    unfolding at_address standing_at standing
    ends_on = found (sought address (layout listing base)) refl
      where
        met : (q : Point) → On listing base q × (q.address.0 ≡ address) → (t : Met) → meets listing q ≡ t → standing t q ≡ End → Ending address
        met q m (Onward x y) e f = go (fills (way x)) f
          where
            go : (t : Bool) → ◌≡◌ {A = AtAddress} (if t then Stray else Stands x q) End → Ending address
            go true f = let z : ◌≡◌ {A = ℕ} 0 1 = cc in absurd (omega arith)
            go false f = let z : ◌≡◌ {A = ℕ} 0 1 = cc in absurd (omega arith)
        met q m AtEnd e f = record { point = q; on = m.0; at = m.1; ends = e }
        met q m (Refusal number) e f = let z : ◌≡◌ {A = ℕ} 0 1 = cc in absurd (omega arith)

        found : (x : Sought) → sought address (layout listing base) ≡ x → standing_at listing x ≡ End → Ending address
        found (At q) e f = met q (sought_member address (layout listing base) q e) (meets listing q) refl f
        found Nowhere e f = let z : ◌≡◌ {A = ℕ} 0 1 = cc in absurd (omega arith)
