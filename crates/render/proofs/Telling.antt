-- The steps of a rendering, up to their type names, can be read back from it.
use Rattle.std.proofs.Common.{◌≡◌, ℕ, ◌+◌, ◌-◌, ◌^◌, ◌<◌, true, List, [], ◌∷◌, ◌++◌, map, length, get_or, drop, codes, decimal, sym, refl, ap, ◌∙◌, ap₂, arith}
use Rattle.digits.proofs.Splitting.{split_same}
use Rattle.std.specs.List.{AllByRecursion as All}
use Rattle.std.proofs.lemmas.List.{append_cancel_left, append_assoc, append-nil, length-map}
use Rattle.sink.specs.Writing.{repeated, padded}
use Rattle.sink.proofs.Reading.{decimal_tell, past_spaces}
use Rattle.step.specs.TagCodes.{plain}
use Rattle.step.specs.Texts.{content}
use Rattle.step.specs.Comparing as tags
use Rattle.step.proofs.Texts as texts
use Rattle.step.specs.declared.interaction.Interaction.{Interaction}
use Rattle.step.specs.declared.text.Text.{Text}
use Rattle.render.specs.Rendering.{hierarchy_name, kind_name, length_text, tag_text, tag_text_by, step_text, line, lines, level, depth_after, header, rendering}
use Rattle.render.specs.Laws.{Shown, shown, Stored, Steps, RenderingsTell}
use Rattle.render.proofs.Words.{hierarchy_tell, hierarchy_no_space, kind_tell, length_tell, code_tell, values_tell}

tag_tell : (a b : Interaction) (r s : List ℕ) → Stored a → Stored b → tag_text a.type_tag ++ r ≡ tag_text b.type_tag ++ s → (a.type_tag ≡ b.type_tag) × (r ≡ s)
tag_tell a b r s ha hb e =
    let t = a.type_tag in
    let u = b.type_tag in
    let same = code_tell t.code u.code t.modulus u.modulus t.degree u.degree t.basis u.basis r s e in
    let other : plain t.code ≡ true → plain u.code ≡ true = λ p. ap plain (sym same) ∙ p in
    let v = values_tell t.modulus u.modulus t.degree u.degree t.basis u.basis r s ha.modulus hb.modulus ha.degree hb.degree (ha.whole ∙ sym hb.whole) ha.bytes hb.bytes t.code
    (λ p. (t.no_modulus p ∙ sym (u.no_modulus (other p)), t.no_degree p ∙ sym (u.no_degree (other p)), t.no_basis p ∙ sym (u.no_basis (other p))))
    (e ∙ ap (λ c. tag_text_by c u.modulus u.degree u.basis ++ s) (sym same)) in
    (tags.same_tag_fields t u same v.0 v.1 v.2, v.3)

-- a step, and what follows it
abbrev flat : Interaction → List ℕ → List ℕ
flat x r =
    hierarchy_name x.hierarchy ++ (32 ∷ (kind_name x.kind ++ (32 ∷ (decimal (length (content x.label)) ++ (32 ∷ (content x.label ++ (32 ∷ (length_text x.length ++ (32 ∷ (tag_text x.type_tag ++ r))))))))))

flattened : (x : Interaction) (r : List ℕ) → step_text x ++ r ≡ flat x r
flattened x r = simp append_assoc

short : (t : Text) → length (content t) < 2 ^ 64
short t = omega (arith, texts.length_content t, t.fits)

step_tell : (a b : Interaction) (r s : List ℕ) → Stored a → Stored b → flat a r ≡ flat b s → (shown a ≡ shown b) × (r ≡ s)
step_tell a b r s ha hb e =
    let h = hierarchy_tell a.hierarchy b.hierarchy _ _ e in
    let k = kind_tell a.kind b.kind _ _ (ap (drop 1) h.1) in
    let n = decimal_tell (length (content a.label)) (length (content b.label)) 32 _ _ (short a.label) (short b.label) (λ d. omega (arith, d.0)) (ap (drop 1) k.1) in
    let l = split_same (content a.label) (content b.label) _ _ n.0 n.1 in
    let g = length_tell a.length b.length _ _ ha.count hb.count (ap (drop 1) l.1) in
    let t = tag_tell a b r s ha hb g.1 in
    let text = texts.same_content a.label b.label l.0 in
    (λ i. record { hierarchy = h.0 i; kind = k.0 i; label = text i; length = g.0 i; tag = t.0 i }, t.1)

line_flat : (w p d : ℕ) (x : Interaction) (r : List ℕ) → line w p d x ++ r ≡ padded w p ++ (32 ∷ (repeated d (codes "  ") ++ flat x (10 ∷ r)))
unfolding line
line_flat w p d x r =
    append_assoc (padded w p) _ r
    ∙ ap (λ l. padded w p ++ 32 ∷ l) (append_assoc (repeated d (codes "  ")) _ r ∙ ap (λ l. repeated d (codes "  ") ++ l) (append_assoc (step_text x) (codes "\n") r ∙ flattened x (10 ∷ r)))

line_tell : (w p d f : ℕ) (a b : Interaction) (r s : List ℕ) → Stored a → Stored b → line w p d a ++ r ≡ line w p f b ++ s → (shown a ≡ shown b) × (r ≡ s)
line_tell w p d f a b r s ha hb e =
    let past = append_cancel_left (padded w p) _ _ (sym (line_flat w p d a r) ∙ e ∙ line_flat w p f b s) in
    let steps = past_spaces d f (flat a (10 ∷ r)) (flat b (10 ∷ s)) (hierarchy_no_space a.hierarchy _) (hierarchy_no_space b.hierarchy _) (ap (drop 1) past) in
    let both = step_tell a b (10 ∷ r) (10 ∷ s) ha hb steps in
    (both.0, ap (drop 1) both.1)

abbrev deeper : ℕ → Shown → ℕ
deeper d x = depth_after x.hierarchy (level x.hierarchy d)

lines_tell : (w p d : ℕ) (xs ys : List Interaction) (r s : List ℕ) → length xs ≡ length ys → All Stored xs → All Stored ys → lines w p d xs ++ r ≡ lines w p d ys ++ s → (map shown xs ≡ map shown ys) × (r ≡ s)
lines_tell w p d [] [] r s l hx hy e = (refl, e)
lines_tell w p d [] (y ∷ ys) r s l hx hy e = absurd (omega arith)
lines_tell w p d (x ∷ xs) [] r s l hx hy e = absurd (omega arith)
lines_tell w p d (x ∷ xs) (y ∷ ys) r s l hx hy e =
    let dx = deeper d (shown x) in
    let dy = deeper d (shown y) in
    let here = line_tell w p (level x.hierarchy d) (level y.hierarchy d) x y (lines w (p + 1) dx xs ++ r) (lines w (p + 1) dy ys ++ s) hx.0 hy.0
    (sym (append_assoc (line w p (level x.hierarchy d) x) (lines w (p + 1) dx xs) r) ∙ e ∙ append_assoc (line w p (level y.hierarchy d) y) (lines w (p + 1) dy ys) s) in
    let deep : dy ≡ dx = ap (deeper d) (sym here.0) in
    let rest = lines_tell w (p + 1) dx xs ys r s (omega arith) hx.1 hy.1 (here.1 ∙ ap (λ k. lines w (p + 1) k ys ++ s) deep) in
    (λ i. here.0 i ∷ rest.0 i, rest.1)

abbrev width : ℕ → ℕ
width n = length (decimal (n - 1))

rendering_flat : (xs : List Interaction) (r : List ℕ) → rendering xs ++ r ≡ codes "Plonky3 Fiat-Shamir Transcript (" ++ (decimal (length xs) ++ (32 ∷ (codes "interactions)\n" ++ (lines (width (length xs)) 0 0 xs ++ r))))
unfolding rendering
rendering_flat xs r = simp append_assoc

tell_on : (a b : Steps) (r s : List ℕ) → rendering a.list ++ r ≡ rendering b.list ++ s → (map shown a.list ≡ map shown b.list) × (r ≡ s)
tell_on a b r s e =
    let xs = a.list in
    let ys = b.list in
    let past = append_cancel_left (codes "Plonky3 Fiat-Shamir Transcript (") _ _ (sym (rendering_flat xs r) ∙ e ∙ rendering_flat ys s) in
    let n = decimal_tell (length xs) (length ys) 32 _ _ a.few b.few (λ d. omega (arith, d.0)) past in
    let body = append_cancel_left (codes "interactions)\n") _ _ n.1 in
    lines_tell (width (length xs)) 0 0 xs ys r s n.0 a.stored b.stored (body ∙ ap (λ k. lines (width k) 0 0 ys ++ s) (sym n.0))

-- the other way, a step's text is a matter of what it shows
abbrev shown_line : ℕ → ℕ → ℕ → Shown → List ℕ
shown_line w p d x =
    padded w p ++ (codes " " ++ (repeated d (codes "  ") ++ (
    (hierarchy_name x.hierarchy ++ (codes " " ++ (kind_name x.kind ++ (codes " " ++
    (decimal (length (content x.label)) ++ (codes " " ++ (content x.label ++ (codes " " ++
    (length_text x.length ++ (codes " " ++ tag_text x.tag)))))))))) ++ codes "\n")))

line_shown : (w p d : ℕ) (x : Interaction) → line w p d x ≡ shown_line w p d (shown x)
unfolding line
line_shown w p d x = refl

lines_unnamed : (w p d : ℕ) (xs ys : List Interaction) → map shown xs ≡ map shown ys → lines w p d xs ≡ lines w p d ys
lines_unnamed w p d [] [] e = refl
lines_unnamed w p d [] (y ∷ ys) e = let z : ◌≡◌ {A = ℕ} 0 (length (map shown (y ∷ ys))) = ap length e in absurd (omega arith)
lines_unnamed w p d (x ∷ xs) [] e = let z : ◌≡◌ {A = ℕ} (length (map shown (x ∷ xs))) 0 = ap length e in absurd (omega arith)
lines_unnamed w p d (x ∷ xs) (y ∷ ys) e =
    let same : shown x ≡ shown y = ap (λ l. get_or l 0 (shown x)) e in
    let rest = lines_unnamed w (p + 1) (deeper d (shown x)) xs ys (ap (drop 1) e) in
    ap₂ ◌++◌
    (line_shown w p (level x.hierarchy d) x ∙ ap (λ z. shown_line w p (level z.hierarchy d) z) same ∙ sym (line_shown w p (level y.hierarchy d) y))
    (rest ∙ ap (λ z. lines w (p + 1) (deeper d z) ys) same)

unnamed : (xs ys : List Interaction) → map shown xs ≡ map shown ys → rendering xs ≡ rendering ys
unfolding rendering
unnamed xs ys e =
    let number : length xs ≡ length ys = sym (length-map xs shown) ∙ ap length e ∙ length-map ys shown in
    ap₂ ◌++◌ (ap header number) (lines_unnamed (width (length xs)) 0 0 xs ys e ∙ ap (λ k. lines (width k) 0 0 ys) number)

pub renderings : RenderingsTell
renderings = record {
  tell = λ a b e. (tell_on a b [] [] (append-nil (rendering a.list) ∙ e ∙ sym (append-nil (rendering b.list)))).0;
  prefix_free = λ a b rest e. (tell_on a b rest [] (e ∙ sym (append-nil (rendering b.list)))).1;
  unnamed = unnamed;
}
