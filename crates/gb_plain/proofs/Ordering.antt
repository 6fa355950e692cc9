-- Free bytes in the order of an instruction's reads give what those of its event give.
use Rattle.std.proofs.Common.{◌≡◌, ℕ, ◌+◌, ◌%◌, Bool, true, false, List, [], ◌∷◌, ◌&&◌, ◌==◌, nat_le, nat_lt, refl, ap, ◌∙◌, slice_index, length, arith}
use Rattle.std.proofs.lemmas.Bool.{eqb-true, and_parts}
use Rattle.std.specs.List.{list_all}
use Rattle.gb_ops.specs.declared.machine.Read.{Read}
use Rattle.gb_ops.specs.declared.machine.Read.TheVariants as read
use Rattle.gb_ops.specs.declared.registers.Processor.{Processor}
use Rattle.gb_ops.specs.Machine.{Reading, read_by, read_at, read_where, fetched, loaded, length_of, second_address, third_address, is_bytes}
use Rattle.gb_ops.specs.Memory.{View, is_free, byte_at}
use Rattle.gb_plain.specs.Handed.{left_by_fetches, IsInOrder, ordered}

where_by : Bool → Bool → ℕ → List ℕ → Reading
where_by true f x free = read_by f x free
where_by false f x free = record { value = 0; rest = free }

where_is : (wanted : Bool) (m : View) (a : ℕ) (free : List ℕ) → read_where wanted m a free ≡ where_by wanted (is_free m a) (byte_at m a) free
unfolding read_where read_at where_by
where_is true m a free = refl
where_is false m a free = refl

pub left_is :
    (m : View) (p : Processor) (free : List ℕ)
    → left_by_fetches m p free
    ≡ (read_where (nat_le 3 (length_of (read_at m p.pc free).value)) m (third_address p)
    (read_where (nat_le 2 (length_of (read_at m p.pc free).value)) m (second_address p) (read_at m p.pc free).rest).rest).rest
unfolding left_by_fetches
left_is m p free = refl

-- what is behind the bytes of an event
spare : Bool → Bool → Bool → List ℕ
spare false false false = 0 ∷ 0 ∷ 0 ∷ []
spare true false false = 0 ∷ 0 ∷ []
spare false true false = 0 ∷ 0 ∷ []
spare false false true = 0 ∷ 0 ∷ []
spare true true false = 0 ∷ []
spare true false true = 0 ∷ []
spare false true true = 0 ∷ []
spare true true true = []

record Same (f0 w1 f1 w2 f2 : Bool) (x0 x1 x2 : ℕ) (all fetch behind : List ℕ) : Type 0 where
  pub first : (read_by f0 x0 all).value ≡ (read_by f0 x0 fetch).value
  pub second : (where_by w1 f1 x1 (read_by f0 x0 all).rest).value ≡ (where_by w1 f1 x1 (read_by f0 x0 fetch).rest).value
  pub third :
      (where_by w2 f2 x2 (where_by w1 f1 x1 (read_by f0 x0 all).rest).rest).value
      ≡ (where_by w2 f2 x2 (where_by w1 f1 x1 (read_by f0 x0 fetch).rest).rest).value
  pub rest : (where_by w2 f2 x2 (where_by w1 f1 x1 (read_by f0 x0 all).rest).rest).rest ≡ behind

same :
    (f0 w1 f1 w2 f2 : Bool) (x0 x1 x2 a b c l h : ℕ)
    → Same f0 w1 f1 w2 f2 x0 x1 x2 (ordered f0 (w1 && f1) (w2 && f2) a b c l h) (a ∷ b ∷ c ∷ []) (l ∷ h ∷ spare f0 (w1 && f1) (w2 && f2))
unfolding where_by spare
same true true true true true x0 x1 x2 a b c l h = record { first = refl; second = refl; third = refl; rest = refl }
same true true true true false x0 x1 x2 a b c l h = record { first = refl; second = refl; third = refl; rest = refl }
same true true true false f2 x0 x1 x2 a b c l h = record { first = refl; second = refl; third = refl; rest = refl }
same true true false true true x0 x1 x2 a b c l h = record { first = refl; second = refl; third = refl; rest = refl }
same true true false true false x0 x1 x2 a b c l h = record { first = refl; second = refl; third = refl; rest = refl }
same true true false false f2 x0 x1 x2 a b c l h = record { first = refl; second = refl; third = refl; rest = refl }
same true false f1 true true x0 x1 x2 a b c l h = record { first = refl; second = refl; third = refl; rest = refl }
same true false f1 true false x0 x1 x2 a b c l h = record { first = refl; second = refl; third = refl; rest = refl }
same true false f1 false f2 x0 x1 x2 a b c l h = record { first = refl; second = refl; third = refl; rest = refl }
same false true true true true x0 x1 x2 a b c l h = record { first = refl; second = refl; third = refl; rest = refl }
same false true true true false x0 x1 x2 a b c l h = record { first = refl; second = refl; third = refl; rest = refl }
same false true true false f2 x0 x1 x2 a b c l h = record { first = refl; second = refl; third = refl; rest = refl }
same false true false true true x0 x1 x2 a b c l h = record { first = refl; second = refl; third = refl; rest = refl }
same false true false true false x0 x1 x2 a b c l h = record { first = refl; second = refl; third = refl; rest = refl }
same false true false false f2 x0 x1 x2 a b c l h = record { first = refl; second = refl; third = refl; rest = refl }
same false false f1 true true x0 x1 x2 a b c l h = record { first = refl; second = refl; third = refl; rest = refl }
same false false f1 true false x0 x1 x2 a b c l h = record { first = refl; second = refl; third = refl; rest = refl }
same false false f1 false f2 x0 x1 x2 a b c l h = record { first = refl; second = refl; third = refl; rest = refl }

-- reads see no more than the first two of what is left
word_by : (f g : Bool) (x y l h : ℕ) (behind : List ℕ) → (read_by g y (read_by f x (l ∷ h ∷ behind)).rest).value ≡ (read_by g y (read_by f x (l ∷ h ∷ [])).rest).value
word_by true true x y l h behind = refl
word_by true false x y l h behind = refl
word_by false true x y l h behind = refl
word_by false false x y l h behind = refl

byte_by : (f : Bool) (x l h : ℕ) (behind : List ℕ) → (read_by f x (l ∷ h ∷ behind)).value ≡ (read_by f x (l ∷ h ∷ [])).value
byte_by true x l h behind = refl
byte_by false x l h behind = refl

loads : (m : View) (what : Read) (l h : ℕ) (behind : List ℕ) → loaded m what (l ∷ h ∷ behind) ≡ loaded m what (l ∷ h ∷ [])
unfolding loaded read_at
loads m read.Nothing l h behind = refl
loads m (read.Byte a) l h behind = rw (byte_by (is_free m a) (byte_at m a) l h behind) refl
loads m (read.Word a) l h behind =
    rw (
      byte_by (is_free m a) (byte_at m a) l h behind,
      word_by (is_free m a) (is_free m ((a + 1) % 65536)) (byte_at m a) (byte_at m ((a + 1) % 65536)) l h behind,
    )
    refl

pub in_order :
    (m : View) (p : Processor) (a b c l h : ℕ)
    → let length = length_of (slice_index (fetched m p (a ∷ b ∷ c ∷ [])) 0) in
    IsInOrder m p (a ∷ b ∷ c ∷ []) (l ∷ h ∷ [])
    (ordered (is_free m p.pc) (nat_le 2 length && is_free m (second_address p)) (nat_le 3 length && is_free m (third_address p)) a b c l h)
unfolding fetched read_at
in_order m p a b c l h =
    let fetch = a ∷ b ∷ c ∷ [] in
    let f0 = is_free m p.pc in
    let length = length_of (read_by f0 (byte_at m p.pc) fetch).value in
    let second = second_address p in
    let third = third_address p in
    let s = same f0 (nat_le 2 length) (is_free m second) (nat_le 3 length) (is_free m third) (byte_at m p.pc) (byte_at m second) (byte_at m third) a b c l h in
    let all = ordered f0 (nat_le 2 length && is_free m second) (nat_le 3 length && is_free m third) a b c l h in
    let behind = spare f0 (nat_le 2 length && is_free m second) (nat_le 3 length && is_free m third) in
    let rest : left_by_fetches m p all ≡ l ∷ h ∷ behind = left_is m p all ∙ simp (where_is, s.first) s.rest in
    record {
      fetches = simp (where_is, s.first, s.second, s.third);
      loads = λ what. ap (λ xs. loaded m what xs) rest ∙ loads m what l h _;
    }

-- a list of n bytes has n elements
sized : (n : ℕ) (xs : List ℕ) → is_bytes n xs ≡ true → length xs ≡ n
sized n xs h = eqb-true (length xs) n (and_parts (length xs == n) (list_all (λ b. nat_lt b 256) xs) h).0

-- of an event's bytes as lists
pub in_order_is :
    (m : View) (p : Processor) (fetch reads : List ℕ) → is_bytes 3 fetch ≡ true → is_bytes 2 reads ≡ true
    → IsInOrder m p fetch reads
    (ordered (is_free m p.pc) (nat_le 2 (length_of (slice_index (fetched m p fetch) 0)) && is_free m (second_address p))
    (nat_le 3 (length_of (slice_index (fetched m p fetch) 0)) && is_free m (third_address p))
    (slice_index fetch 0) (slice_index fetch 1) (slice_index fetch 2) (slice_index reads 0) (slice_index reads 1))
in_order_is m p (a ∷ b ∷ c ∷ []) (l ∷ h ∷ []) three two = in_order m p a b c l h
in_order_is m p [] reads three two = absurd (let bad : false ≡ true = three in cc)
in_order_is m p (a ∷ []) reads three two = absurd (let bad : false ≡ true = three in cc)
in_order_is m p (a ∷ b ∷ []) reads three two = absurd (let bad : false ≡ true = three in cc)
in_order_is m p (a ∷ b ∷ c ∷ d ∷ more) reads three two = absurd (let n : length (a ∷ b ∷ c ∷ d ∷ more) ≡ 3 = sized 3 (a ∷ b ∷ c ∷ d ∷ more) three in omega (arith, n))
in_order_is m p (a ∷ b ∷ c ∷ []) [] three two = absurd (let bad : false ≡ true = two in cc)
in_order_is m p (a ∷ b ∷ c ∷ []) (l ∷ []) three two = absurd (let bad : false ≡ true = two in cc)
in_order_is m p (a ∷ b ∷ c ∷ []) (l ∷ h ∷ k ∷ more) three two = absurd (let n : length (l ∷ h ∷ k ∷ more) ≡ 2 = sized 2 (l ∷ h ∷ k ∷ more) two in omega (arith, n))
