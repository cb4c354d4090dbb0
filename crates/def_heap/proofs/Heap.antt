-- What holds of a heap: the first slot has the lowest rank; a number more and a number less leave a heap of the same
-- numbers.
use Rattle.std.specs.Prelude.{◌≡◌, refl, ◌≢◌, Bool, true, false, ◌&&◌, ◌||◌, ltb, leb, eqb}
use Rattle.std.proofs.Common.{sym, ap, ◌∙◌, mul_assoc, mul-le-mul_right}
use Rattle.std.proofs.Math.Path.{fun_ext}
use Prim.Native.Nat.{ℕ, zero, suc, ◌+◌, ◌*◌, ◌^◌, ◌≤◌, ◌<◌}
use Rattle.std.proofs.Math.Nat.{pow-succ'}
use native.Mathlib.Omega.{arith}
use Rattle.std.proofs.Math.Decide.{ℕ_discrete, dec_lt}
use borrow.Author.Tests.{eq-eqb, ne_eqb, eqb-true, eqb-false, ltb-true, ltb-false, leb-false}
use Rattle.def_basics.specs.Base.{pick, update}
use Rattle.def_basics.specs.Laws.{never, pick_by, update_same, update_at, update_other}
use Rattle.def_basics.specs.Counting.{hit, hit_same, hit_other, sum, sum_suc, sum_same, sum_le, sum_at}
use Rattle.def_heap.specs.declared.Sifted.{Sifted}
use Rattle.def_heap.specs.declared.Sifted.TheVariants.{Rests}
use Rattle.def_heap.specs.Sift.{
  above,
  left,
  right,
  sift_up,
  lesser,
  sound_below,
  sift_down,
  shift_down,
  shift_up,
}

-- slot b is one of the two below slot a
abbrev pub Below : ℕ → ℕ → Type 0
Below a b = (2 * a + 1 ≤ b) × (b ≤ 2 * a + 2)

-- m slots are a heap by a rank
pub record Heap (rank : ℕ → ℕ) (m : ℕ) (slot : ℕ → ℕ) : Type 0 where
  pub ordered : (a b : ℕ) → b < m → Below a b → rank (slot a) ≤ rank (slot b)

-- how many of the first m slots hold x
abbrev pub count : ℕ → (ℕ → ℕ) → ℕ → ℕ
count m slot x = sum m (λ k. hit x (slot k))

above_is : (i : ℕ) → 0 < i → Below (above i) i
above_is i h = (omega arith, omega arith)

-- ---- the first of all
pub first_lowest : (rank : ℕ → ℕ) (m : ℕ) (slot : ℕ → ℕ) → Heap rank m slot → (k : ℕ) → k < m
    → rank (slot 0) ≤ rank (slot k)
first_lowest rank m slot H k l = go k k l (omega arith)
  where
    go : (n k : ℕ) → k < m → k ≤ n → rank (slot 0) ≤ rank (slot k)
    go zero k l f = let z : k ≡ 0 = omega arith in rw z (omega arith)
    go (suc n) k l f = elim (dec_lt 0 k) [
      | yes z ↦
          let c = above_is k z in
          omega (arith, H.ordered (above k) k l c, go n (above k) (omega (arith, c)) (omega (arith, c)))
      | no z ↦ let y : k ≡ 0 = omega arith in rw y (omega arith)
    ]

-- a heap by a rank that is the same on what it holds
pub heap_same : (rank later : ℕ → ℕ) (m : ℕ) (slot other : ℕ → ℕ) → ((k : ℕ) → k < m → other k ≡ slot k)
    → ((k : ℕ) → k < m → later (slot k) ≡ rank (slot k)) → Heap rank m slot → Heap later m other
heap_same rank later m slot other e f H = record {
  ordered = λ a b l c.
      let n : a < m = omega arith in
      omega (arith, H.ordered a b l c, ap later (e a n), ap later (e b l), f a n, f b l);
}

-- ---- what is held
-- what a slot holds is held
pub held : (m : ℕ) (slot : ℕ → ℕ) (k : ℕ) → k < m → 0 < count m slot (slot k)
held m slot k l = omega (arith, sum_le m (λ q. hit (slot k) (slot q)) k l, hit_same (slot k))

-- what is held has a slot
pub record Slot (m : ℕ) (slot : ℕ → ℕ) (v : ℕ) : Type 0 where
  pub at : ℕ
  pub within : at < m
  pub there : slot at ≡ v

pub slot_of : (m : ℕ) (slot : ℕ → ℕ) (v : ℕ) → 0 < count m slot v → Slot m slot v
unfolding sum
slot_of zero slot v h = absurd (omega arith)
slot_of (suc m) slot v h = elim (ℕ_discrete v (slot m)) [
  | yes e ↦ record { at = m; within = omega arith; there = sym e }
  | no e ↦
      let r = slot_of m slot v (omega (arith, hit_other v (slot m) e)) in
      record { at = r.at; within = omega (arith, r.within); there = r.there }
]

put_count_lem : (m : ℕ) (h : ℕ → ℕ) (i x v : ℕ) → i < m → count m (update h i x) v + hit v (h i) ≡ count m h v + hit v x
put_count_lem m h i x v l =
    omega (
      arith,
      sum_at m (λ k. hit v (h k)) (λ k. hit v (update h i x k)) i l (λ q e. ap (hit v) (update_other h i x q e)),
      ap (hit v) (update_same h i x),
    )

-- ---- a heap with a hole: the slot i, which a number that moves fills in the end
record Hole (rank : ℕ → ℕ) (m : ℕ) (h : ℕ → ℕ) (i : ℕ) : Type 0 where
  ordered : (a b : ℕ) → b < m → Below a b → a ≢ i → b ≢ i → rank (h a) ≤ rank (h b)
  across : (a b : ℕ) → b < m → Below a i → Below i b → rank (h a) ≤ rank (h b)

module _ (rank : ℕ → ℕ) (m : ℕ) (h : ℕ → ℕ) (i : ℕ) (H : Hole rank m h i) where
  filled : (x : ℕ) → ((a : ℕ) → Below a i → rank (h a) ≤ rank x) → ((b : ℕ) → b < m → Below i b → rank x ≤ rank (h b))
      → Heap rank m (update h i x)
  filled x over under = record {
    ordered = λ a b l c. elim (ℕ_discrete a i) [
      | yes e ↦ rw (update_at h i x a e, update_other h i x b (omega arith)) (under b l (omega arith, omega arith))
      | no e ↦ elim (ℕ_discrete b i) [
        | yes f ↦ rw (update_at h i x b f, update_other h i x a e) (over a (omega arith, omega arith))
        | no f ↦ rw (update_other h i x a e, update_other h i x b f) (H.ordered a b l c e f)
      ]
    ];
  }

  -- the hole moves to the slot above, or to the lesser of those below
  hole_up : (p : ℕ) → i < m → Below p i → Hole rank m (update h i (h p)) p
  hole_up p l c = record {
    ordered = λ a b n d e f. elim (ℕ_discrete a i) [
      | yes z ↦
          rw (update_at h i (h p) a z, update_other h i (h p) b (omega arith))
          (H.across p b n c (omega arith, omega arith))
      | no z ↦ elim (ℕ_discrete b i) [
        | yes y ↦ absurd (e (omega arith))
        | no y ↦ rw (update_other h i (h p) a z, update_other h i (h p) b y) (H.ordered a b n d z y)
      ]
    ];
    across = λ a b n d e.
        let one = H.ordered a p (omega arith) d (omega arith) (omega arith) in
        rw (update_other h i (h p) a (omega arith)) (elim (ℕ_discrete b i) [
          | yes z ↦ rw (update_at h i (h p) b z) one
          | no z ↦ rw (update_other h i (h p) b z) (omega (arith, H.ordered p b n e (omega arith) z))
        ]);
  }

  hole_down : (c : ℕ) → c < m → Below i c → ((b : ℕ) → b < m → Below i b → rank (h c) ≤ rank (h b))
      → Hole rank m (update h i (h c)) c
  hole_down c l d least = record {
    ordered = λ a b n e f g. elim (ℕ_discrete a i) [
      | yes z ↦
          rw (update_at h i (h c) a z, update_other h i (h c) b (omega arith)) (least b n (omega arith, omega arith))
      | no z ↦ elim (ℕ_discrete b i) [
        | yes y ↦
            rw (update_at h i (h c) b y, update_other h i (h c) a z) (H.across a c l (omega arith, omega arith) d)
        | no y ↦ rw (update_other h i (h c) a z, update_other h i (h c) b y) (H.ordered a b n e z y)
      ]
    ];
    across = λ a b n e f.
        rw (update_at h i (h c) a (omega arith), update_other h i (h c) b (omega arith))
        (H.ordered c b n f (omega arith) (omega arith));
  }

-- moving the hole from i to p changes nothing in what the slots hold once x is put in
moved : (m : ℕ) (h : ℕ → ℕ) (i p x v : ℕ) → i < m → p < m → i ≢ p
    → count m (update (update h i (h p)) p x) v ≡ count m (update h i x) v
moved m h i p x v l n e =
    omega (
      arith,
      put_count_lem m (update h i (h p)) p x v n,
      put_count_lem m h i (h p) v l,
      put_count_lem m h i x v l,
      ap (hit v) (update_other h i (h p) p (λ z. e (sym z))),
    )

-- where the number that fills the hole came to rest, and what the slots are from then on
record Settled (rank : ℕ → ℕ) (m : ℕ) (put : ℕ → ℕ) (shifted : ℕ → ℕ → ℕ) (Reached : ℕ → Type 0) (found : Sifted)
    : Type 0 where
  at : ℕ
  rests : found ≡ Rests at
  reached : Reached at
  heap : Heap rank m (shifted at)
  holds : (v : ℕ) → count m (shifted at) v ≡ count m put v

-- ---- a number more
-- a number x enters m numbers; `later` is the rank from then on
pub record Enters (later : ℕ → ℕ) (n : ℕ) (slot : ℕ → ℕ) (x m : ℕ) (found : Sifted) : Type 0 where
  pub at : ℕ
  pub rests : found ≡ Rests at
  pub within : at ≤ m
  pub heap : Heap later (suc m) (shift_down n slot x m at)
  pub holds : (v : ℕ) → count (suc m) (shift_down n slot x m at) v ≡ hit v x + count m slot v

module _ (rank later : ℕ → ℕ) (sound : ℕ → Bool) (slot : ℕ → ℕ) (x m : ℕ)
    (trusted : (k : ℕ) → k < m → sound k ≡ true)
    (same : (k : ℕ) → k < m → later (slot k) ≡ rank (slot k)) where
  rise : (n i : ℕ) (h : ℕ → ℕ) → i ≤ m → i < 2 ^ n → ((k : ℕ) → k < i → h k ≡ slot k) → Hole later (suc m) h i
      → ((b : ℕ) → b < suc m → Below i b → later x ≤ later (h b))
      → Settled later (suc m) (update h i x) (shift_down n h x i) (λ k. k ≤ i) (sift_up rank sound slot n (later x) i)
  unfolding sift_up shift_down
  rise zero i h l f reads H under = record {
    at = i;
    rests = refl;
    reached = omega arith;
    heap = filled later (suc m) h i H x (λ a c. absurd (omega arith)) under;
    holds = λ v. refl;
  }
  rise (suc n) i h l f reads H under =
      pick_by Q (eqb i 0) (λ e. stays (λ a c. absurd (omega (arith, eqb-true i 0 e))))
      (λ e.
      let z : 0 < i = omega (arith, eqb-false i 0 e) in
      pick_by Q (sound p)
      (λ s. pick_by Q (ltb (later x) (rank (slot p)))
      (λ g. goes z
      (rise n p (update h i (h p)) (omega arith) (omega (arith, pow-succ' 2 n))
      (λ k o. update_other h i (h p) k (omega arith) ∙ reads k (omega arith))
      (hole_up later (suc m) h i H p (omega arith) (above_is i z)) (over_all z (ltb-true (later x) (rank (slot p)) g))))
      (λ g. stays (λ a d.
      let same : a ≡ p = omega arith in
      rw same (omega (arith, ltb-false (later x) (rank (slot p)) g, level z)))))
      (λ s. never (cc (trusted p (omega arith)))))
    where
      p : ℕ
      p = above i

      Q : Sifted → Type 0
      Q = Settled later (suc m) (update h i x) (shift_down (suc n) h x i) (λ k. k ≤ i)

      level : 0 < i → later (h p) ≡ rank (slot p)
      level z = ap later (reads p (omega arith)) ∙ same p (omega arith)

      stays : ((a : ℕ) → Below a i → later (h a) ≤ later x) → Q (Rests i)
      stays over = record {
        at = i;
        rests = refl;
        reached = omega arith;
        heap = rw (eq-eqb i i refl) (filled later (suc m) h i H x over under);
        holds = λ v. rw (eq-eqb i i refl) refl;
      }

      over_all : 0 < i → later x < rank (slot p)
          → (b : ℕ) → b < suc m → Below p b → later x ≤ later (update h i (h p) b)
      over_all z g b o d = elim (ℕ_discrete b i) [
        | yes y ↦ rw (update_at h i (h p) b y) (omega (arith, level z))
        | no y ↦ rw (update_other h i (h p) b y) (omega (arith, level z, H.ordered p b o d (omega arith) y))
      ]

      goes : 0 < i
          → Settled later (suc m) (update (update h i (h p)) p x) (shift_down n (update h i (h p)) x p) (λ k. k ≤ p)
          (sift_up rank sound slot n (later x) p)
          → Q (sift_up rank sound slot n (later x) p)
      goes z r =
          let apart = ne_eqb i r.at (omega (arith, r.reached)) in
          record {
            at = r.at;
            rests = r.rests;
            reached = omega (arith, r.reached);
            heap = rw apart r.heap;
            holds = λ v. rw apart (r.holds v ∙ moved (suc m) h i p x v (omega arith) (omega arith) (omega arith));
          }

pub enters : (rank later : ℕ → ℕ) (sound : ℕ → Bool) (slot : ℕ → ℕ) (n x m : ℕ) → m < 2 ^ n → Heap rank m slot
    → ((k : ℕ) → k < m → sound k ≡ true) → ((k : ℕ) → k < m → later (slot k) ≡ rank (slot k))
    → Enters later n slot x m (sift_up rank sound slot n (later x) m)
enters rank later sound slot n x m f H trusted same =
    let L = heap_same rank later m slot slot (λ k l. refl) same H in
    let r =
    rise rank later sound slot x m trusted same n m slot (omega arith) f (λ k l. refl)
    (record {
      ordered = λ a b l d e g. L.ordered a b (omega arith) d;
      across = λ a b l d e. absurd (omega arith);
    })
    (λ b l d. absurd (omega arith)) in
    record {
      at = r.at;
      rests = r.rests;
      within = r.reached;
      heap = r.heap;
      holds = λ v. omega (
        arith,
        r.holds v,
        sum_suc m (λ k. hit v (update slot m x k)),
        ap (hit v) (update_same slot m x),
        sum_same m (λ k. hit v (slot k)) (λ k. hit v (update slot m x k))
            (λ q l. ap (hit v) (update_other slot m x q (omega arith))),
      );
    }

-- ---- a number less
-- the first of m + 1 numbers leaves; the last moves
pub record Leaves (later : ℕ → ℕ) (n : ℕ) (slot : ℕ → ℕ) (m : ℕ) (found : Sifted) : Type 0 where
  pub at : ℕ
  pub rests : found ≡ Rests at
  pub within : at ≤ m
  pub heap : Heap later m (shift_up n slot (slot m) at)
  pub holds : (v : ℕ) → count (suc m) slot v ≡ hit v (slot 0) + count m (shift_up n slot (slot m) at) v

-- `shift_up` that ends at slot i: the number there goes out
unfoldable raise : (most : ℕ) (slot : ℕ → ℕ) (number to from : ℕ) → ℕ → ℕ
raise zero slot x i k = update slot k x
raise (suc n) slot x i k = pick (eqb k i) (update slot k x) (raise n (update slot k x) (slot k) i (above k))

raise_first : (n : ℕ) (slot : ℕ → ℕ) (x k : ℕ) → raise n slot x 0 k ≡ shift_up n slot x k
unfolding raise shift_up
raise_first zero slot x k = refl
raise_first (suc n) slot x k = rw (raise_first n (update slot k x) (slot k) (above k))

raise_here : (n : ℕ) (slot : ℕ → ℕ) (x i : ℕ) → raise n slot x i i ≡ update slot i x
unfolding raise
raise_here zero slot x i = refl
raise_here (suc n) slot x i = rw (eq-eqb i i refl)

-- at most n steps up from slot k lead to slot i, each from a slot of which P holds
pub data Leads (P : ℕ → Type 0) (i : ℕ) : ℕ → ℕ → Type 0 where
  ends : {n : ℕ} → Leads P i n i
  on : {n k : ℕ} → i < k → P k → Leads P i n (above k) → Leads P i (suc n) k

pub leads_within : {P : ℕ → Type 0} {i n k : ℕ} → Leads P i n k → i ≤ k
leads_within ends = omega arith
leads_within (on l p r) = omega arith

pub leads_on : {P : ℕ → Type 0} {i c n k : ℕ} → Below i c → P c → Leads P c n k → Leads P i (suc n) k
leads_on {i = i} {c} {n} d p ends =
    let e : above c ≡ i = omega arith in
    on {n = n} {k = c} (omega arith) p (rw e ends)
leads_on {k = k} d p (on l q r) = on {k = k} (omega arith) q (leads_on d p r)

update_swap : (f : ℕ → ℕ) (i k x y : ℕ) → i ≢ k → update (update f i x) k y ≡ update (update f k y) i x
update_swap f i k x y e = fun_ext (λ j. elim (ℕ_discrete j i) [
  | yes z ↦
      let o : j ≢ k = λ w. e (sym z ∙ w) in
      update_other (update f i x) k y j o ∙ update_at f i x j z ∙ sym (update_at (update f k y) i x j z)
  | no z ↦ elim (ℕ_discrete j k) [
    | yes w ↦
        update_at (update f i x) k y j w ∙ sym (update_other (update f k y) i x j z ∙ update_at f k y j w)
    | no w ↦
        update_other (update f i x) k y j w ∙ update_other f i x j z
        ∙ sym (update_other (update f k y) i x j z ∙ update_other f k y j w)
  ]
])

-- the last step of the way up, from slot c to slot i, may be taken first
raise_last : {P : ℕ → Type 0} (i : ℕ) {c n k : ℕ} (slot : ℕ → ℕ) (x : ℕ) → Below i c → Leads P c n k
    → raise (suc n) slot x i k ≡ raise n (update slot i (slot c)) x c k
unfolding raise
raise_last i {c} {n} slot x d ends =
    let e : above c ≡ i = omega arith in
    let o : i ≢ c = omega arith in
    rw (ne_eqb c i (omega arith), e, raise_here n (update slot c x) (slot c) i)
    (rw (raise_here n (update slot i (slot c)) x c) (sym (update_swap slot i c (slot c) x o)))
raise_last i {c} slot x d (on {n = n} {k = k} l p r) =
    let o : i ≢ k = omega arith in
    rw (ne_eqb k i (omega arith), ne_eqb k c (omega arith), update_other slot i (slot c) k (omega arith))
    (rw (update_swap slot i k (slot c) x o)
    (raise_last i (update slot k x) (slot k) d r ∙ rw (update_other slot k x c (omega arith))))

-- the lesser of the two slots below one is one of them
pub below_lesser : (rank : ℕ → ℕ) (sound : ℕ → Bool) (slot : ℕ → ℕ) (m i : ℕ)
    → Below i (lesser rank sound slot m i)
below_lesser rank sound slot m i =
    pick_by (Below i) (ltb (right i) m && ltb (rank (slot (right i))) (rank (slot (left i))))
    (λ _. (omega arith, omega arith)) (λ _. (omega arith, omega arith))

-- of the slots below, the one with the lowest rank
pub record Least (rank : ℕ → ℕ) (m : ℕ) (slot : ℕ → ℕ) (i c : ℕ) : Type 0 where
  pub below : Below i c
  pub within : c < m
  pub least : (b : ℕ) → b < m → Below i b → rank (slot c) ≤ rank (slot b)

pub lesser_is : (rank : ℕ → ℕ) (sound : ℕ → Bool) (slot : ℕ → ℕ) (m i : ℕ) → left i < m
    → Least rank m slot i (lesser rank sound slot m i)
lesser_is rank sound slot m i l = go (ltb (right i) m) refl (ltb (rank (slot (right i))) (rank (slot (left i)))) refl
  where
    at : (b c : ℕ) → b ≡ c → rank (slot b) ≡ rank (slot c)
    at b c e = ap (λ k. rank (slot k)) e

    go : (x : Bool) → ltb (right i) m ≡ x → (y : Bool) → ltb (rank (slot (right i))) (rank (slot (left i))) ≡ y
        → Least rank m slot i (pick (x && y) (right i) (left i))
    go true e true g =
        let less = ltb-true (rank (slot (right i))) (rank (slot (left i))) g in
        record {
          below = (omega arith, omega arith);
          within = ltb-true (right i) m e;
          least = λ b n d. elim (ℕ_discrete b (right i)) [
            | yes z ↦ rw z (omega arith)
            | no z ↦ let y : b ≡ left i = omega arith in omega (arith, at b (left i) y)
          ];
        }
    go true e false g =
        let more = ltb-false (rank (slot (right i))) (rank (slot (left i))) g in
        record {
          below = (omega arith, omega arith);
          within = l;
          least = λ b n d. elim (ℕ_discrete b (left i)) [
            | yes z ↦ rw z (omega arith)
            | no z ↦ let y : b ≡ right i = omega arith in omega (arith, at b (right i) y)
          ];
        }
    go false e y g =
        let none = ltb-false (right i) m e in
        record {
          below = (omega arith, omega arith);
          within = l;
          least = λ b n d. let z : b ≡ left i = omega arith in rw z (omega arith);
        }

-- a level further down there are twice as many slots to a level
pub deeper : (i c n m : ℕ) → Below i c → m < (i + 1) * 2 ^ suc n → m < (c + 1) * 2 ^ n
deeper i c n m d f =
    let twice : (i + 1) * 2 ^ suc n ≡ (i + 1) * 2 * 2 ^ n = rw (pow-succ', ← mul_assoc) in
    let most : (i + 1) * 2 * 2 ^ n ≤ (c + 1) * 2 ^ n = mul-le-mul_right (2 ^ n) (omega arith) in
    omega arith

module _ (rank later : ℕ → ℕ) (sound : ℕ → Bool) (slot : ℕ → ℕ) (x m : ℕ)
    (trusted : (k : ℕ) → 0 < k → k < m → sound k ≡ true)
    (same : (k : ℕ) → 0 < k → k < m → later (slot k) ≡ rank (slot k)) where
  abbrev Reaches : ℕ → ℕ → ℕ → Type 0
  Reaches i n k = (k < m) × Leads (λ _. Unit {0}) i n k

  below_sound : (i : ℕ) → left i < m → sound_below rank sound slot m i ≡ true
  below_sound i l = rw (trusted (left i) (omega arith) l) (right_sound (leb m (right i)) refl)
    where
      right_sound : (b : Bool) → leb m (right i) ≡ b
          → (b || sound (right i)) ≡ true
      right_sound true e = refl
      right_sound false e =
          let o = leb-false m (right i) e in
          trusted (right i) (omega arith) (omega arith)

  fall : (n i : ℕ) (h : ℕ → ℕ) → i < m → m < (i + 1) * 2 ^ n → ((k : ℕ) → i < k → h k ≡ slot k) → Hole later m h i
      → ((a : ℕ) → Below a i → later (h a) ≤ later x)
      → Settled later m (update h i x) (raise n h x i) (Reaches i n)
      (sift_down rank sound slot n m (later x) i)
  unfolding sift_down raise
  fall zero i h l f reads H over = record {
    at = i;
    rests = refl;
    reached = (l, ends);
    heap = filled later m h i H x over (λ b n d. absurd (omega arith));
    holds = λ v. refl;
  }
  fall (suc n) i h l f reads H over =
      pick_by Q (ltb (left i) m)
      (λ e.
      let w = ltb-true (left i) m e in
      let L = lesser_is rank sound slot m i w in
      pick_by Q (sound_below rank sound slot m i)
      (λ s. pick_by Q (ltb (rank (slot c)) (later x))
      (λ g. goes L
      (fall n c (update h i (h c)) L.within (deeper i c n m L.below f)
      (λ k o. update_other h i (h c) k (omega (arith, L.below)) ∙ reads k (omega (arith, L.below)))
      (hole_down later m h i H c L.within L.below (lowest L))
      (under_all L (ltb-true (rank (slot c)) (later x) g))))
      (λ g. stays (λ b o d.
      omega (arith, ltb-false (rank (slot c)) (later x) g, L.least b o d, level b o d))))
      (λ s. never (cc (below_sound i w))))
      (λ e. stays (λ b o d. absurd (omega (arith, ltb-false (left i) m e))))
    where
      c : ℕ
      c = lesser rank sound slot m i

      Q : Sifted → Type 0
      Q = Settled later m (update h i x) (raise (suc n) h x i) (Reaches i (suc n))

      level : (b : ℕ) → b < m → Below i b → later (h b) ≡ rank (slot b)
      level b o d = ap later (reads b (omega arith)) ∙ same b (omega arith) o

      lowest : Least rank m slot i c → (b : ℕ) → b < m → Below i b → later (h c) ≤ later (h b)
      lowest L b o d = omega (arith, L.least b o d, level b o d, level c L.within L.below)

      stays : ((b : ℕ) → b < m → Below i b → later x ≤ later (h b)) → Q (Rests i)
      stays under = record {
        at = i;
        rests = refl;
        reached = (l, ends);
        heap = rw (eq-eqb i i refl) (filled later m h i H x over under);
        holds = λ v. rw (eq-eqb i i refl) refl;
      }

      under_all : Least rank m slot i c → rank (slot c) < later x
          → (a : ℕ) → Below a c → later (update h i (h c) a) ≤ later x
      under_all L g a d =
          let z : a ≡ i = omega (arith, L.below) in
          rw (update_at h i (h c) a z) (omega (arith, level c L.within L.below))

      goes : Least rank m slot i c
          → Settled later m (update (update h i (h c)) c x) (raise n (update h i (h c)) x c)
          (Reaches c n) (sift_down rank sound slot n m (later x) c)
          → Q (sift_down rank sound slot n m (later x) c)
      goes L r =
          let last = raise_last i h x L.below r.reached.1 in
          record {
            at = r.at;
            rests = r.rests;
            reached = (r.reached.0, leads_on L.below tt r.reached.1);
            heap = rw last r.heap;
            holds = λ v. rw last (r.holds v ∙ moved m h i c x v l L.within (omega (arith, L.below)));
          }

down_alone : (rank : ℕ → ℕ) (sound : ℕ → Bool) (slot : ℕ → ℕ) (n r : ℕ) → sift_down rank sound slot n 0 r 0 ≡ Rests 0
unfolding sift_down
down_alone rank sound slot zero r = refl
down_alone rank sound slot (suc n) r = refl

leaves_alone : (rank later : ℕ → ℕ) (sound : ℕ → Bool) (slot : ℕ → ℕ) (n : ℕ)
    → Leaves later n slot 0 (sift_down rank sound slot n 0 (rank (slot 0)) 0)
unfolding sum
leaves_alone rank later sound slot n = record {
  at = 0;
  rests = down_alone rank sound slot n (rank (slot 0));
  within = omega arith;
  heap = record { ordered = λ a b l c. absurd (omega arith) };
  holds = λ v. refl;
}

pub leaves : (rank later : ℕ → ℕ) (sound : ℕ → Bool) (slot : ℕ → ℕ) (n m : ℕ) → m < 2 ^ n → Heap rank (suc m) slot
    → ((k : ℕ) → 0 < k → k < m → sound k ≡ true)
    → ((k : ℕ) → 0 < k → k ≤ m → later (slot k) ≡ rank (slot k))
    → Leaves later n slot m (sift_down rank sound slot n m (rank (slot m)) 0)
leaves rank later sound slot n zero f H trusted same = leaves_alone rank later sound slot n
leaves rank later sound slot n (suc m) f H trusted same = go
    (fall rank later sound slot (slot (suc m)) (suc m) trusted (λ k z l. same k z (omega arith)) n 0 slot
    (omega arith) (omega arith) (λ k l. refl)
    (record {
      ordered = λ a b l d e g.
          let one = same a (omega arith) (omega arith) in
          let two = same b (omega arith) (omega arith) in
          omega (arith, H.ordered a b (omega arith) d);
      across = λ a b l d e. absurd (omega arith);
    })
    (λ a d. absurd (omega arith)))
  where
    go : Settled later (suc m) (update slot 0 (slot (suc m))) (raise n slot (slot (suc m)) 0)
        (λ k. (k < suc m) × Leads (λ _. Unit {0}) 0 n k) (sift_down rank sound slot n (suc m) (later (slot (suc m))) 0)
        → Leaves later n slot (suc m) (sift_down rank sound slot n (suc m) (rank (slot (suc m))) 0)
    go r = record {
      at = r.at;
      rests = rw (← same (suc m) (omega arith) (omega arith)) r.rests;
      within = omega (arith, r.reached.0);
      heap = rw (← raise_first n slot (slot (suc m)) r.at) r.heap;
      holds = λ v.
          rw (← raise_first n slot (slot (suc m)) r.at)
          (omega (
            arith,
            r.holds v,
            sum_suc (suc m) (λ k. hit v (slot k)),
            put_count_lem (suc m) slot 0 (slot (suc m)) v (omega arith),
          ));
    }
