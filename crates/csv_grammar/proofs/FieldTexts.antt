-- The bytes of a field that the reader takes, and of what stands after it. Assumes nothing.
use mathlib.Core.Path.{◌≡◌, refl, ap, sym, ◌∙◌, subst}
use mathlib.Core.Bool.{Bool, true, false, true≢false, false≢true}
use mathlib.Core.List.{List, [], ◌∷◌, ◌++◌, map, append_assoc}
use Prim.Native.Nat.{ℕ, zero, suc, ◌+◌, ◌*◌, ◌-◌, ◌≤◌, ◌<◌}
use native.Mathlib.Omega.{arith}
use native.Mathlib.Decide.{ℕ_discrete, dec_lt}
use native.Mathlib.Numerals.{add-one}
use borrow.Author.Tests.{eqb-true, eq-eqb, ne_eqb, lt-ltb, le-ltb, ltb-true}
use lib.Dec.{eqb}
use lib.ListN.{length, get_or, drop, drop_of_length-le}
use lib.Seq.{drop-cons}
use Rattle.csv_form.specs.declared.Kind.{Kind}
use Rattle.csv_form.specs.declared.Kind.TheVariants.{Tariff, Production}
use Rattle.std.proofs.Common.{Ok, Err}
use Rattle.csv_form.specs.declared.after.After.TheVariants as afters
use Rattle.csv_form.specs.Form.{mark}
use Rattle.csv_form.specs.inner.Reader.{FieldAnswer, AfterAnswer, read, misfit, digit_or10, is_minus, pick_field, number_from, number_at, digits_from, valued, number_of, signed_at}
use Rattle.csv_form.specs.inner.Reader.{close_quote, field_at, at_last, last_at, comma_at, line_at, record_at, after_at}
use Rattle.csv_form.proofs.FieldAnswers.{same_read}
use Rattle.csv_form.proofs.ByteMarks.{mark_digit, below_ten, above_ten, inside, minus_byte}
use Rattle.csv_form.proofs.AfterAnswers.{present, cost_yes, cost_no, last_no, last_more, last_end, demand_past, demand_return, demand_other, line_more}
use Rattle.csv_form.proofs.AfterAnswers.{line_end_lem, record-no, record-yes, plain_past, plain_comma, plain_return, plain_none}
use Rattle.csv_grammar.specs.Grammar.{Each, Digit, IsNumber, value_after, Field, IsField, digit_text, sign_text, field_text, line_end}

-- ---- bytes
byte_at : (s : List ℕ) (at b : ℕ) → at < length s → get_or s at 0 ≡ b → drop at s ≡ b ∷ drop (at + 1) s
byte_at s at b h e = rw (add-one, drop-cons s at 0 h, e) refl

digit_byte : (b : ℕ) → digit_or10 (mark b) ≤ 9 → b ≡ digit_text (digit_or10 (mark b))
digit_byte b h = elim (dec_lt b 48) [
  | yes l ↦ absurd (omega (arith, below_ten b l))
  | no l ↦ elim (dec_lt 57 b) [
    | yes k ↦ absurd (omega (arith, above_ten b k))
    | no k ↦ let e : digit_or10 (mark b) ≡ b - 48 = ap digit_or10 (mark_digit b (omega arith) (omega arith)) in omega arith
  ]
]

-- ---- digits
record DigitsText (s : List ℕ) (left v at value next : ℕ) : Type 0 where
  ds : List ℕ
  each : Each Digit ds
  few : length ds ≤ left
  is : value ≡ value_after v ds
  head : 0 < left → digit_or10 (mark (get_or s at 0)) ≤ 9 → (1 ≤ length ds) × (get_or ds 0 0 ≡ digit_or10 (mark (get_or s at 0)))
  single : 9 < digit_or10 (mark (get_or s (at + 1) 0)) → length ds ≤ 1
  stop : 9 < digit_or10 (mark (get_or s at 0)) → length ds ≤ 0
  text : drop at s ≡ map digit_text ds ++ drop next s

digits_text : (s : List ℕ) (left v at : ℕ) → DigitsText s left v at (digits_from left s v at).value (digits_from left s v at).next
unfolding digits_from value_after
digits_text s zero v at = record { ds = []; each = tt; few = omega arith; is = refl; head = λ h k. absurd (omega arith); single = λ h. omega arith; stop = λ h. omega arith; text = refl }
digits_text s (suc left) v at = elim (dec_lt 9 (digit_or10 (mark (get_or s at 0)))) [
  | yes h ↦ rw (lt-ltb 9 (digit_or10 (mark (get_or s at 0))) h) (record {
    ds = [];
    each = tt;
    few = omega arith;
    is = refl;
    head = λ k l. absurd (omega arith);
    single = λ h. omega arith;
    stop = λ h. omega arith;
    text = refl;
  })
  | no h ↦
      let d = digit_or10 (mark (get_or s at 0)) in
      let small : d ≤ 9 = omega arith in
      let rest = digits_text s left (v * 10 + d) (at + 1) in
      rw (le-ltb 9 (digit_or10 (mark (get_or s at 0))) small) (record {
        ds = d ∷ rest.ds;
        each = (small, rest.each);
        few = omega (arith, rest.few);
        is = rest.is;
        head = λ k l. (omega arith, refl);
        single = λ k. omega (arith, rest.stop k);
        stop = λ k. absurd (omega arith);
        text = byte_at s at (digit_text d) (inside s at small) (digit_byte (get_or s at 0) small) ∙ ap (λ (l : List ℕ). digit_text d ∷ l) rest.text;
      })
]

-- ---- a number
record NumberText (s : List ℕ) (m : Bool) (at v next : ℕ) : Type 0 where
  ds : List ℕ
  number : IsNumber ds
  no_minus_zero : m ≡ true → 0 < get_or ds 0 0
  is : v ≡ value_after 0 ds
  text : drop at s ≡ map digit_text ds ++ drop next s

-- a number begins: with a digit; with a 0 where none is before it and no digit follows
starts : (m : Bool) (d e : ℕ) → number_from m d e ≡ true → (d ≤ 9) × (m ≡ true → 0 < d) × (d ≤ 0 → 9 < e)
starts m d e h = elim (dec_lt 9 d) [
  | yes k ↦ absurd (false≢true (sym (rw (lt-ltb 9 d k) refl) ∙ h))
  | no k ↦ elim (dec_lt 0 d) [
    | yes l ↦ (omega arith, λ _. l, λ z. absurd (omega arith))
    | no l ↦ (omega arith, λ z. absurd (at_zero m z h (omega arith) (omega arith)), λ _. past_zero m h (omega arith) (omega arith))
  ]
]
  where
    at_zero : (m : Bool) → m ≡ true → number_from m d e ≡ true → d ≤ 9 → d ≤ 0 → ⊥
    at_zero true z h few none' = false≢true (sym (rw (le-ltb 9 d few) (rw (le-ltb 0 d none') refl)) ∙ h)
    at_zero false z h few none' = false≢true z

    past_zero : (m : Bool) → number_from m d e ≡ true → d ≤ 9 → d ≤ 0 → 9 < e
    past_zero true h few none' = absurd (false≢true (sym (rw (le-ltb 9 d few) (rw (le-ltb 0 d none') refl)) ∙ h))
    past_zero false h few none' = ltb-true 9 e (sym (rw (le-ltb 9 d few) (rw (le-ltb 0 d none') refl)) ∙ h)

number_text : (s : List ℕ) (m : Bool) (at v : ℕ) (m' : Bool) (next : ℕ) → number_of m s at ≡ read v m' next → (m' ≡ m) × NumberText s m at v next
unfolding number_of
number_text s m at v m' next e = go (number_at m s at) refl e
  where
    go : (b : Bool) → number_at m s at ≡ b → pick_field b (valued m (digits_from 10 s 0 at)) (misfit at) ≡ read v m' next → (m' ≡ m) × NumberText s m at v next
    go false n k = absurd (let z : ◌≡◌ {A = ℕ} 0 1 = cc in omega arith)
    go true n k =
        let t = digits_text s 10 0 at in
        let p = same_read k in
        let ev : (digits_from 10 s 0 at).value ≡ v = p.0 in
        let en : (digits_from 10 s 0 at).next ≡ next = p.2 in
        let em : m ≡ m' = p.1 in
        let b = starts m (digit_or10 (mark (get_or s at 0))) (digit_or10 (mark (get_or s (at + 1) 0))) n in
        let head = t.head (omega arith) b.0 in (
          sym em,
          record {
            ds = t.ds;
            number = record {
              some = head.0;
              few = t.few;
              each = t.each;
              no_zero = λ h. elim (dec_lt 0 (get_or t.ds 0 0)) [ yes l ↦ l | no l ↦ absurd (omega (arith, t.single (b.2 (omega (arith, head.1))))) ];
            };
            no_minus_zero = λ z. omega (arith, b.1 z, head.1);
            is = sym ev ∙ t.is;
            text = t.text ∙ ap (λ (k : ℕ). map digit_text t.ds ++ drop k s) en;
          },
        )

-- ---- a number with its sign
record SignedText (kind : Kind) (s : List ℕ) (at v : ℕ) (m : Bool) (next : ℕ) : Type 0 where
  ds : List ℕ
  number : IsNumber ds
  no_minus_zero : m ≡ true → 0 < get_or ds 0 0
  tariff : m ≡ true → kind ≡ Tariff
  is : v ≡ value_after 0 ds
  text : drop at s ≡ (sign_text m ++ map digit_text ds) ++ drop next s

-- a minus stands in a tariff alone
is_minus_lem : (kind : Kind) (b : ℕ) → is_minus kind (mark b) ≡ true → (kind ≡ Tariff) × (b ≡ 45)
is_minus_lem Tariff b e = (refl, eqb-true b 45 (minus_byte b ∙ e))
is_minus_lem Production b e = absurd (false≢true e)

signed_text : (kind : Kind) (s : List ℕ) (at v : ℕ) (m : Bool) (next : ℕ) → signed_at kind s at ≡ read v m next → SignedText kind s at v m next
unfolding signed_at
signed_text kind s at v m next e = go (is_minus kind (mark (get_or s at 0))) refl e
  where
    plain : (b : Bool) → b ≡ false → NumberText s false at v next → SignedText kind s at v b next
    plain true z t = absurd (true≢false z)
    plain false z t = record { ds = t.ds; number = t.number; no_minus_zero = λ h. absurd (false≢true h); tariff = λ h. absurd (false≢true h); is = t.is; text = t.text }

    costs : (b : Bool) → b ≡ true → kind ≡ Tariff → get_or s at 0 ≡ 45 → NumberText s true (at + 1) v next → SignedText kind s at v b next
    costs false z k h t = absurd (false≢true z)
    costs true z k h t = record {
      ds = t.ds;
      number = t.number;
      no_minus_zero = t.no_minus_zero;
      tariff = λ _. k;
      is = t.is;
      text = byte_at s at 45 (present s at 44 h) h ∙ ap (λ (l : List ℕ). 45 ∷ l) t.text;
    }

    go : (b : Bool) → is_minus kind (mark (get_or s at 0)) ≡ b → pick_field b (number_of true s (at + 1)) (number_of false s at) ≡ read v m next → SignedText kind s at v m next
    go true k h = let t = number_text s true (at + 1) v m next h in let w = is_minus_lem kind (get_or s at 0) k in costs m t.0 w.0 w.1 t.1
    go false k h = let t = number_text s false at v m next h in plain m t.0 t.1

-- ---- a field
pub record FieldText (kind : Kind) (s : List ℕ) (at v : ℕ) (m : Bool) (next : ℕ) : Type 0 where
  pub it : Field
  pub is_field : IsField it
  pub negative : it.negative ≡ m
  pub tariff : m ≡ true → kind ≡ Tariff
  pub is : v ≡ value_after 0 it.digits
  pub text : drop at s ≡ field_text it ++ drop next s

pub field_text_lem : (kind : Kind) (s : List ℕ) (at v : ℕ) (m : Bool) (next : ℕ) → field_at kind s at ≡ read v m next → FieldText kind s at v m next
unfolding field_at field_text
field_text_lem kind s at v m next e = elim (ℕ_discrete (get_or s at 0) 34) [
  | yes q ↦ in_quotes_lem q (signed_at kind s (at + 1)) refl (sym (rw (eq-eqb (get_or s at 0) 34 q) refl) ∙ e)
  | no q ↦ bare' (signed_text kind s at v m next (sym (rw (ne_eqb (get_or s at 0) 34 q) refl) ∙ e))
]
  where
    bare' : SignedText kind s at v m next → FieldText kind s at v m next
    bare' t = record {
      it = record { quoted = false; negative = m; digits = t.ds };
      is_field = record { number = t.number; no_minus_zero = t.no_minus_zero };
      negative = refl;
      tariff = t.tariff;
      is = t.is;
      text = t.text;
    }

    closed' : get_or s at 0 ≡ 34 → (n : ℕ) → get_or s n 0 ≡ 34 → n + 1 ≡ next → SignedText kind s (at + 1) v m n → FieldText kind s at v m next
    closed' q n c k t = record {
      it = record { quoted = true; negative = m; digits = t.ds };
      is_field = record { number = t.number; no_minus_zero = t.no_minus_zero };
      negative = refl;
      tariff = t.tariff;
      is = t.is;
      text =
          byte_at s at 34 (present s at 33 q) q
          ∙ ap (λ (l : List ℕ). 34 ∷ l)
          (t.text ∙ ap (λ (l : List ℕ). (sign_text m ++ map digit_text t.ds) ++ l) (byte_at s n 34 (present s n 33 c) c ∙ ap (λ (k : ℕ). 34 ∷ drop k s) k)
          ∙ sym (append_assoc (sign_text m ++ map digit_text t.ds) (34 ∷ []) (drop next s)));
    }

    in_quotes_lem : get_or s at 0 ≡ 34 → (a : FieldAnswer) → signed_at kind s (at + 1) ≡ a → close_quote s a ≡ read v m next → FieldText kind s at v m next
    in_quotes_lem q (Err e) k h = absurd (let z : ◌≡◌ {A = ℕ} 0 1 = cc in omega arith)
    in_quotes_lem q (Ok f) k h = go (eqb (get_or s f.next 0) 34) refl h
      where
        go : (b : Bool) → eqb (get_or s f.next 0) 34 ≡ b → pick_field b (read f.value f.minus (f.next + 1)) (misfit f.next) ≡ read v m next → FieldText kind s at v m next
        go false c w = absurd (let z : ◌≡◌ {A = ℕ} 0 1 = cc in omega arith)
        go true c w =
            let p = same_read w in
            let ev : f.value ≡ v = p.0 in
            let em : f.minus ≡ m = p.1 in
            let en : f.next + 1 ≡ next = p.2 in
            closed' q f.next (eqb-true (get_or s f.next 0) 34 c) en
            (signed_text kind s (at + 1) v m f.next (k ∙ ap (λ (x : ℕ). read x f.minus f.next) ev ∙ ap (λ (x : Bool). read v x f.next) em))

-- ---- after a field
pub record Ended (s : List ℕ) (at : ℕ) (before : List ℕ) : Type 0 where
  pub ended : Bool
  pub text : drop at s ≡ before ++ line_end ended

abbrev pub AfterText : Kind → Bool → Bool → List ℕ → ℕ → AfterAnswer → Type 0
AfterText kind m source s at (Ok (afters.Field next)) = drop at s ≡ 44 ∷ drop next s
AfterText kind m source s at (Ok (afters.Record next)) = (m ≡ false) × (drop at s ≡ 13 ∷ 10 ∷ drop next s)
AfterText kind m source s at (Ok afters.End) = (m ≡ false) × (kind ≡ Production) × Ended s at []
AfterText kind m source s at (Ok afters.Empty) = (m ≡ false) × (kind ≡ Tariff) × (source ≡ false) × Ended s at (44 ∷ [])
AfterText kind m source s at (Err e) = Unit {0}

-- from the CR of a record on
abbrev LineText : Kind → List ℕ → ℕ → AfterAnswer → Type 0
LineText kind s at (Ok (afters.Field next)) = ⊥
LineText kind s at (Ok (afters.Record next)) = drop at s ≡ 10 ∷ drop next s
LineText kind s at (Ok afters.End) = (kind ≡ Production) × (drop at s ≡ 10 ∷ [])
LineText kind s at (Ok afters.Empty) = ⊥
LineText kind s at (Err e) = Unit {0}

-- after the comma of a record that may be the demands'
abbrev CommaText : Kind → Bool → List ℕ → ℕ → AfterAnswer → Type 0
CommaText kind source s at (Ok (afters.Field next)) = drop at s ≡ drop next s
CommaText kind source s at (Ok (afters.Record next)) = ⊥
CommaText kind source s at (Ok afters.End) = ⊥
CommaText kind source s at (Ok afters.Empty) = (kind ≡ Tariff) × (source ≡ false) × Ended s at []
CommaText kind source s at (Err e) = Unit {0}

nothing_left : (s : List ℕ) (at : ℕ) → length s ≤ at → drop at s ≡ []
nothing_left s at h = drop_of_length-le s h

last_text : (s : List ℕ) (at : ℕ) → at < length s → get_or s at 0 ≡ 13 → CommaText Tariff false s at (last_at s (at + 1))
last_text s at h e = elim (ℕ_discrete (get_or s (at + 1) 0) 10) [
  | yes f ↦ elim (dec_lt (at + 1 + 1) (length s)) [
    | yes k ↦ subst (CommaText Tariff false s at) (last_more s (at + 1) f k) tt
    | no k ↦
        subst (CommaText Tariff false s at) (last_end s (at + 1) f (omega arith)) (
          refl,
          refl,
          record {
            ended = true;
            text =
                byte_at s at 13 h e
                ∙ ap (λ (l : List ℕ). 13 ∷ l) (byte_at s (at + 1) 10 (present s (at + 1) 9 f) f ∙ ap (λ (l : List ℕ). 10 ∷ l) (nothing_left s (at + 1 + 1) (omega arith)));
          },
        )
  ]
  | no f ↦ subst (CommaText Tariff false s at) (last_no s (at + 1) f) tt
]

comma_text : (kind : Kind) (source : Bool) (s : List ℕ) (at : ℕ) → CommaText kind source s at (comma_at kind source s at)
unfolding comma_at
comma_text Production source s at = refl
comma_text Tariff true s at = refl
comma_text Tariff false s at = elim (dec_lt at (length s)) [
  | yes h ↦ elim (ℕ_discrete (get_or s at 0) 13) [
    | yes e ↦ subst (CommaText Tariff false s at) (demand_return s at h e) (last_text s at h e)
    | no e ↦ subst (CommaText Tariff false s at) (demand_other s at h e) refl
  ]
  | no h ↦ subst (CommaText Tariff false s at) (demand_past s at (omega arith)) (refl, refl, record { ended = false; text = nothing_left s at (omega arith) })
]

line_text : (kind : Kind) (s : List ℕ) (at : ℕ) → LineText kind s at (record_at kind s at)
unfolding line_at
line_text kind s at = elim (ℕ_discrete (get_or s at 0) 10) [
  | yes e ↦ subst (LineText kind s at) (record-yes s at kind e) (on kind (byte_at s at 10 (present s at 9 e) e))
  | no e ↦ subst (LineText kind s at) (record-no s at kind e) tt
]
  where
    on : (kind : Kind) → drop at s ≡ 10 ∷ drop (at + 1) s → LineText kind s at (line_at kind s (at + 1))
    on Tariff t = t
    on Production t = elim (dec_lt (at + 1) (length s)) [
      | yes h ↦ subst (LineText Production s at) (line_more s (at + 1) h) t
      | no h ↦ subst (LineText Production s at) (line_end_lem s (at + 1) (omega arith)) (refl, t ∙ ap (λ (l : List ℕ). 10 ∷ l) (nothing_left s (at + 1) (omega arith)))
    ]

pub after_text : (kind : Kind) (m source : Bool) (s : List ℕ) (at : ℕ) → AfterText kind m source s at (after_at kind m source s at)
unfolding after_at
after_text kind true source s at = elim (ℕ_discrete (get_or s at 0) 44) [
  | yes e ↦ subst (AfterText kind true source s at) (cost_yes s at e) (byte_at s at 44 (present s at 43 e) e)
  | no e ↦ subst (AfterText kind true source s at) (cost_no s at e) tt
]
after_text kind false source s at = elim (dec_lt at (length s)) [
  | yes h ↦ elim (ℕ_discrete (get_or s at 0) 44) [
    | yes e ↦ subst (AfterText kind false source s at) (plain_comma s at kind source h e) (on_comma h e (comma_at kind source s (at + 1)) (comma_text kind source s (at + 1)))
    | no c ↦ elim (ℕ_discrete (get_or s at 0) 13) [
      | yes e ↦ subst (AfterText kind false source s at) (plain_return s at kind source h c e) (on_line h e (record_at kind s (at + 1)) (line_text kind s (at + 1)))
      | no e ↦ subst (AfterText kind false source s at) (plain_none s at kind source h c e) tt
    ]
  ]
  | no h ↦ subst (AfterText kind false source s at) (plain_past s at kind source (omega arith)) (on_end kind (omega arith))
]
  where
    on_comma : at < length s → get_or s at 0 ≡ 44 → (a : AfterAnswer) → CommaText kind source s (at + 1) a → AfterText kind false source s at a
    on_comma h e (Ok (afters.Field next)) t = byte_at s at 44 h e ∙ ap (λ (l : List ℕ). 44 ∷ l) t
    on_comma h e (Ok (afters.Record next)) t = absurd t
    on_comma h e (Ok afters.End) t = absurd t
    on_comma h e (Ok afters.Empty) t = (refl, t.0, t.1, record { ended = t.2.ended; text = byte_at s at 44 h e ∙ ap (λ (l : List ℕ). 44 ∷ l) t.2.text })
    on_comma h e (Err x) t = tt

    on_line : at < length s → get_or s at 0 ≡ 13 → (a : AfterAnswer) → LineText kind s (at + 1) a → AfterText kind false source s at a
    on_line h e (Ok (afters.Field next)) t = absurd t
    on_line h e (Ok (afters.Record next)) t = (refl, byte_at s at 13 h e ∙ ap (λ (l : List ℕ). 13 ∷ l) t)
    on_line h e (Ok afters.End) t = (refl, t.0, record { ended = true; text = byte_at s at 13 h e ∙ ap (λ (l : List ℕ). 13 ∷ l) t.1 })
    on_line h e (Ok afters.Empty) t = absurd t
    on_line h e (Err x) t = tt

    on_end : (kind : Kind) → length s ≤ at → AfterText kind false source s at (at_last kind at)
    on_end Tariff h = tt
    on_end Production h = (refl, refl, record { ended = false; text = nothing_left s at h })
