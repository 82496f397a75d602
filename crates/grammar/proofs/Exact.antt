-- Each form found is just what its relation says.
use Rattle.std.proofs.Common.{◌≡◌, Bool, true, false, ◌&&◌, eqb, List, [], ◌∷◌, is_some, Some, None, codes, Decides, Option, sym, refl, ap, ◌∙◌, subst, ⊎_elim}
use Rattle.std.specs.Str.{bytes_eq}
use Rattle.std.proofs.lemmas.Slice.Eq.{bytes_eq-Decides}
use Rattle.std.proofs.lemmas.Option.{none-some, cond_some, some_pair_parts}
use Rattle.std.proofs.lemmas.Bool.{cond-true, cond-false, cases_Bool, and_parts, and_from, eqb-true, eq-eqb, both_ways}
use Rattle.rules.specs.declared.blocks.Size.{Size}
use Rattle.words.specs.Words.{Word, with_rest}
use Rattle.words.specs.Numbers.{number_of}
use Rattle.words.specs.Arguments.{then, argument, end}
use Rattle.names.specs.Names.{is_name}
use Rattle.grammar.specs.declared.outlines.Point.{Point}
use Rattle.grammar.specs.declared.outlines.Corners.{Corners}
use Rattle.grammar.specs.Forms.{word, name_word, header_of, count_of, terminal_of, vertex_of, corners_of, with_name, outline_of, size_of}
use Rattle.grammar.specs.Laws.{BlockLaw}
use Rattle.grammar.specs.Relations.{Header, CountLine, TerminalLine, Vertex, Vertices, OutlineLine, rectangle, Exactly}

-- what a word in front found

pub record WordFirst {B : Type 0} (this : Word) (next : List Word → Option B) (ws : List Word) (b : B) : Type 0 where
  pub rest : List Word
  pub form : ws ≡ this ∷ rest
  pub goes_on : next rest ≡ Some b

word_inv : {B : Type 0} (this : Word) (next : List Word → Option B) (ws : List Word) (b : B) → word this next ws ≡ Some b → WordFirst this next ws b
word_inv this next [] b e = absurd (none-some _ e)
word_inv this next (w ∷ ws) b e =
    ⊎_elim
    (λ t. record { rest = ws; form = ap (λ v. v ∷ ws) ((bytes_eq-Decides w this).0 t); goes_on = sym (cond-true (bytes_eq w this) _ _ t) ∙ e })
    (λ f. absurd (none-some _ (sym (cond-false (bytes_eq w this) _ _ f) ∙ e)))
    (cases_Bool (bytes_eq w this))

pub word_here : {B : Type 0} (this : Word) (next : List Word → Option B) (rest : List Word) → word this next (this ∷ rest) ≡ next rest
word_here this next rest = cond-true (bytes_eq this this) _ _ ((bytes_eq-Decides this this).1 refl)

pub record ArgumentFirst {A B : Type 0} (says : Word → Option A) (f : A → List Word → Option B) (ws : List Word) (b : B) : Type 0 where
  pub front : Word
  pub rest : List Word
  pub value : A
  pub form : ws ≡ front ∷ rest
  pub said : says front ≡ Some value
  pub goes_on : f value rest ≡ Some b

module _ {A B : Type 0} (says : Word → Option A) (f : A → List Word → Option B) (b : B) where
  found_first : (w : Word) (ws : List Word) (o : Option A) → says w ≡ o → then (with_rest ws o) f ≡ Some b → ArgumentFirst says f (w ∷ ws) b
  found_first w ws None s e = absurd (none-some _ e)
  found_first w ws (Some a) s e = record { front = w; rest = ws; value = a; form = refl; said = s; goes_on = e }

  argument_inv : (ws : List Word) → argument says f ws ≡ Some b → ArgumentFirst says f ws b
  argument_inv [] e = absurd (none-some _ e)
  argument_inv (w ∷ ws) e = found_first w ws (says w) refl e

  argument_here : (w : Word) (ws : List Word) (a : A) → says w ≡ Some a → argument says f (w ∷ ws) ≡ f a ws
  argument_here w ws a s = ap (λ o. then (with_rest ws o) f) s

end_inv : {B : Type 0} (b c : B) (ws : List Word) → end b ws ≡ Some c → (ws ≡ []) × (b ≡ c)
end_inv b c [] e = (refl, cc)
end_inv b c (w ∷ ws) e = absurd (none-some _ e)

name_inv : (w n : Word) → name_word w ≡ Some n → (is_name w ≡ true) × (w ≡ n)
name_inv w n e = cond_some (is_name w) w n e

name_here : (n : Word) → is_name n ≡ true → name_word n ≡ Some n
name_here n t = cond-true (is_name n) _ _ t

pub record ThenFound {A B : Type 0} (o : Option (A × List Word)) (f : A → List Word → Option B) (b : B) : Type 0 where
  pub value : A
  pub rest : List Word
  pub found : o ≡ Some (value, rest)
  pub goes_on : f value rest ≡ Some b

then_inv : {A B : Type 0} (o : Option (A × List Word)) (f : A → List Word → Option B) (b : B) → then o f ≡ Some b → ThenFound o f b
then_inv None f b e = absurd (none-some _ e)
then_inv (Some p) f b e = record { value = p.0; rest = p.1; found = refl; goes_on = e }

-- the header

pub header_inv : (ws : List Word) (b : Bool) → header_of ws ≡ Some b → Header ws
header_inv ws b e =
    let one = word_inv _ _ ws b e in
    let two = word_inv _ _ one.rest b one.goes_on in
    let three = word_inv _ _ two.rest b two.goes_on in
    let last = end_inv true b three.rest three.goes_on in
    one.form ∙ ap (λ l. codes "UCSC" ∷ l) (two.form ∙ ap (λ l. codes "blocks" ∷ l) (three.form ∙ ap (λ l. codes "1.0" ∷ l) last.0))

pub some_since : {A : Type 0} (o : Option A) → is_some o ≡ true → (a : A) × (o ≡ Some a)
some_since None e = absurd (both_ways false refl e)
some_since (Some a) e = (a, refl)

pub header_law : (ws : List Word) → Decides (is_some (header_of ws)) (Header ws)
header_law ws = (λ t. let found = some_since (header_of ws) t in header_inv ws found.0 found.1, λ h. ap (λ l. is_some (header_of l)) h)

-- a count line

pub count_law : (label : Word) (ws : List Word) → Exactly (count_of label ws) (CountLine label ws)
count_law label ws n = (
  λ e.
      let one = word_inv _ _ ws n e in
      let two = word_inv _ _ one.rest n one.goes_on in
      let three = argument_inv _ _ n two.rest two.goes_on in
      let last = end_inv three.value n three.rest three.goes_on in
      record {
        digits = three.front;
        form = one.form ∙ ap (λ l. label ∷ l) (two.form ∙ ap (λ l. codes ":" ∷ l) (three.form ∙ ap (λ l. three.front ∷ l) last.0));
        spells = three.said ∙ ap (λ m. Some m) last.1;
      },
  λ r. ap (count_of label) r.form ∙ word_here label (word (codes ":") (argument number_of (λ m. end m))) (codes ":" ∷ r.digits ∷ []) ∙ argument_here number_of (λ m. end m) n r.digits [] n r.spells,
)

-- a terminal line

pub terminal_law : (ws : List Word) → Exactly (terminal_of ws) (TerminalLine ws)
terminal_law ws n = (
  λ e.
      let one = argument_inv _ _ n ws e in
      let two = word_inv _ _ one.rest n one.goes_on in
      let last = end_inv one.value n two.rest two.goes_on in
      let known = name_inv one.front one.value one.said in
      let same = known.1 ∙ last.1 in
      record {
        form = one.form ∙ (λ i. same i ∷ (two.form ∙ ap (λ l. codes "terminal" ∷ l) last.0) i);
        named = subst (λ w. is_name w ≡ true) same known.0;
      },
  λ r. ap terminal_of r.form ∙ argument_here name_word (λ m. word (codes "terminal") (end m)) n n (codes "terminal" ∷ []) n (name_here n r.named),
)

-- a vertex

pub vertex_inv : (ws : List Word) (p : Point) (rest : List Word) → vertex_of ws ≡ Some (p, rest) → Vertex ws p rest
vertex_inv ws p rest e =
    let one = word_inv _ _ ws (p, rest) e in
    let two = argument_inv _ _ (p, rest) one.rest one.goes_on in
    let three = word_inv _ _ two.rest (p, rest) two.goes_on in
    let four = argument_inv _ _ (p, rest) three.rest three.goes_on in
    let five = word_inv _ _ four.rest (p, rest) four.goes_on in
    let made : ◌≡◌ {A = Point × List Word} (record { x = two.value; y = four.value }, five.rest) (p, rest) = cc five.goes_on in
    record {
      across = two.front;
      up = four.front;
      form =
          one.form ∙
          ap (λ l. codes "(" ∷ l)
          (two.form ∙
          ap (λ l. two.front ∷ l)
          (three.form ∙ ap (λ l. codes "," ∷ l) (four.form ∙ ap (λ l. four.front ∷ l) (five.form ∙ ap (λ q. codes ")" ∷ q.1) made))));
      x_is = two.said ∙ ap (λ q. Some q.0.x) made;
      y_is = four.said ∙ ap (λ q. Some q.0.y) made;
    }

pub vertex_here : (ws : List Word) (p : Point) (rest : List Word) → Vertex ws p rest → vertex_of ws ≡ Some (p, rest)
vertex_here ws p rest v = rw (v.form, v.x_is, v.y_is)

-- four vertices

pub corners_law : (ws : List Word) → Exactly (corners_of ws) (Vertices ws)
corners_law ws q = (
  λ e.
      let one = then_inv (vertex_of ws) _ q e in
      let two = then_inv (vertex_of one.rest) _ q one.goes_on in
      let three = then_inv (vertex_of two.rest) _ q two.goes_on in
      let four = then_inv (vertex_of three.rest) _ q three.goes_on in
      let last = end_inv _ q four.rest four.goes_on in
      subst (Vertices ws) last.1
      (record {
        after_first = one.rest;
        after_second = two.rest;
        after_third = three.rest;
        v1 = vertex_inv ws _ _ one.found;
        v2 = vertex_inv one.rest _ _ two.found;
        v3 = vertex_inv two.rest _ _ three.found;
        v4 = subst (Vertex three.rest four.value) last.0 (vertex_inv three.rest _ _ four.found);
      }),
  λ v.
      rw (vertex_here ws _ _ v.v1, vertex_here v.after_first _ _ v.v2, vertex_here v.after_second _ _ v.v3, vertex_here v.after_third _ _ v.v4),
)

-- a line with a block's vertices

named_inv : (n : Word) (o : Option Corners) (m : Word) (q : Corners) → with_name n o ≡ Some (m, q) → (n ≡ m) × (o ≡ Some q)
named_inv n None m q e = absurd (none-some _ e)
named_inv n (Some r) m q e = let both = some_pair_parts n m r q e in (both.0, ap Some both.1)

pub outline_law : (ws : List Word) (n : Word) (q : Corners) → (outline_of ws ≡ Some (n, q) → OutlineLine ws n q) × (OutlineLine ws n q → outline_of ws ≡ Some (n, q))
outline_law ws n q = (
  λ e.
      let one = argument_inv _ _ (n, q) ws e in
      let two = word_inv _ _ one.rest (n, q) one.goes_on in
      let three = word_inv _ _ two.rest (n, q) two.goes_on in
      let known = name_inv one.front one.value one.said in
      let last = named_inv one.value (corners_of three.rest) n q three.goes_on in
      let same = known.1 ∙ last.0 in
      record {
        rest = three.rest;
        form = one.form ∙ (λ i. same i ∷ (two.form ∙ ap (λ l. codes "hardrectilinear" ∷ l) three.form) i);
        named = subst (λ w. is_name w ≡ true) same known.0;
        vertices = (corners_law three.rest q).0 last.1;
      },
  λ r.
      ap outline_of r.form ∙
      argument_here name_word (λ m. word (codes "hardrectilinear") (word (codes "4") (λ rest. with_name m (corners_of rest)))) (n, q) n _ n (name_here n r.named) ∙
      ap (with_name n) ((corners_law r.rest q).1 r.vertices),
)

-- the size of a rectangle

module _ (q : Corners) where
  abbrev upright : Bool
  upright = eqb q.first.x 0 && (eqb q.first.y 0 && (eqb q.second.x 0 && (eqb q.second.y q.third.y && (eqb q.fourth.x q.third.x && eqb q.fourth.y 0))))

  abbrev size : Size
  size = record { width = q.third.x; height = q.third.y }

  upright_is : upright ≡ true → q ≡ rectangle size
  upright_is t =
      let one = and_parts (eqb q.first.x 0) _ t in
      let two = and_parts (eqb q.first.y 0) _ one.1 in
      let three = and_parts (eqb q.second.x 0) _ two.1 in
      let four = and_parts (eqb q.second.y q.third.y) _ three.1 in
      let five = and_parts (eqb q.fourth.x q.third.x) (eqb q.fourth.y 0) four.1 in
      let a = eqb-true q.first.x 0 one.0 in
      let b = eqb-true q.first.y 0 two.0 in
      let c = eqb-true q.second.x 0 three.0 in
      let d = eqb-true q.second.y q.third.y four.0 in
      let e = eqb-true q.fourth.x q.third.x five.0 in
      let f = eqb-true q.fourth.y 0 five.1 in
      λ i.
      record {
        first = record { x = a i; y = b i };
        second = record { x = c i; y = d i };
        third = q.third;
        fourth = record { x = e i; y = f i };
      }

pub size_law : (q : Corners) → Exactly (size_of q) (λ s. q ≡ rectangle s)
size_law q s = (
  λ e. let is = cond_some (upright q) (size q) s e in upright_is q is.0 ∙ ap rectangle is.1,
  λ e.
      ap size_of e ∙
      cond-true (eqb s.height s.height && (eqb s.width s.width && true)) (Some s) None
      (and_from (eqb s.height s.height) _ (eq-eqb s.height s.height refl) (and_from (eqb s.width s.width) true (eq-eqb s.width s.width refl) refl)),
)

pub block_law : BlockLaw
block_law ws n s = (
  λ q o e. subst (OutlineLine ws n) ((size_law q s).0 e) ((outline_law ws n q).0 o),
  λ l. (outline_law ws n (rectangle s)).1 l,
)
