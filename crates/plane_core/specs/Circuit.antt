-- The circuit of Boyar, Peralta and Calik for the S-box (SLP_AES_113 of Peralta's circuits) on one
-- byte, in three parts: x0 is the byte's highest bit, and s0 that of its image. The inverters at
-- its end are left out. The middle is that of Boyar and Peralta's "A depth-16 circuit for the AES
-- S-box" (2011).
use Rattle.std.specs.Prelude.{ℕ, List, [], ◌∷◌, bit_and, bit_xor}

-- t21 to t24
unfoldable pub circuit_head : ℕ → ℕ → ℕ → ℕ → ℕ → ℕ → ℕ → ℕ → List ℕ
circuit_head x0 x1 x2 x3 x4 x5 x6 x7 =
    let y14 = bit_xor x3 x5 in
    let y13 = bit_xor x0 x6 in
    let y9 = bit_xor x0 x3 in
    let y8 = bit_xor x0 x5 in
    let t0 = bit_xor x1 x2 in
    let y1 = bit_xor t0 x7 in
    let y4 = bit_xor y1 x3 in
    let y12 = bit_xor y13 y14 in
    let y2 = bit_xor y1 x0 in
    let y5 = bit_xor y1 x6 in
    let y3 = bit_xor y5 y8 in
    let t1 = bit_xor x4 y12 in
    let y15 = bit_xor t1 x5 in
    let y20 = bit_xor t1 x1 in
    let y6 = bit_xor y15 x7 in
    let y10 = bit_xor y15 t0 in
    let y11 = bit_xor y20 y9 in
    let y7 = bit_xor x7 y11 in
    let y17 = bit_xor y10 y11 in
    let y19 = bit_xor y10 y8 in
    let y16 = bit_xor t0 y11 in
    let y21 = bit_xor y13 y16 in
    let y18 = bit_xor x0 y16 in
    let t2 = bit_and y12 y15 in
    let t3 = bit_and y3 y6 in
    let t4 = bit_xor t3 t2 in
    let t5 = bit_and y4 x7 in
    let t6 = bit_xor t5 t2 in
    let t7 = bit_and y13 y16 in
    let t8 = bit_and y5 y1 in
    let t9 = bit_xor t8 t7 in
    let t10 = bit_and y2 y7 in
    let t11 = bit_xor t10 t7 in
    let t12 = bit_and y9 y11 in
    let t13 = bit_and y14 y17 in
    let t14 = bit_xor t13 t12 in
    let t15 = bit_and y8 y10 in
    let t16 = bit_xor t15 t12 in
    let t17 = bit_xor t4 y20 in
    let t18 = bit_xor t6 t16 in
    let t19 = bit_xor t9 t14 in
    let t20 = bit_xor t11 t16 in
    let t21 = bit_xor t17 t14 in
    let t22 = bit_xor t18 y19 in
    let t23 = bit_xor t19 y21 in
    let t24 = bit_xor t20 y18 in
    t21 ∷ t22 ∷ t23 ∷ t24 ∷ []

-- t29, t33, t37 and t40, which are m37, m39, m40 and m38 there
unfoldable pub inner : ℕ → ℕ → ℕ → ℕ → List ℕ
inner m20 m21 m22 m23 =
    let m24 = bit_xor m22 m23 in
    let m25 = bit_and m20 m22 in
    let m26 = bit_xor m21 m25 in
    let m27 = bit_xor m20 m21 in
    let m28 = bit_xor m23 m25 in
    let m29 = bit_and m28 m27 in
    let m37 = bit_xor m21 m29 in
    let m30 = bit_and m26 m24 in
    let m39 = bit_xor m23 m30 in
    let m31 = bit_and m20 m23 in
    let m32 = bit_and m27 m31 in
    let m33 = bit_xor m27 m25 in
    let m38 = bit_xor m32 m33 in
    let m34 = bit_and m21 m22 in
    let m35 = bit_and m24 m34 in
    let m36 = bit_xor m24 m25 in
    let m40 = bit_xor m35 m36 in
    m37 ∷ m39 ∷ m40 ∷ m38 ∷ []

-- s0 to s7
unfoldable pub tail : ℕ → ℕ → ℕ → ℕ → ℕ → ℕ → ℕ → ℕ → ℕ → ℕ → ℕ → ℕ → List ℕ
tail x0 x1 x2 x3 x4 x5 x6 x7 t29 t33 t37 t40 =
    let y14 = bit_xor x3 x5 in
    let y13 = bit_xor x0 x6 in
    let y9 = bit_xor x0 x3 in
    let y8 = bit_xor x0 x5 in
    let t0 = bit_xor x1 x2 in
    let y1 = bit_xor t0 x7 in
    let y4 = bit_xor y1 x3 in
    let y12 = bit_xor y13 y14 in
    let y2 = bit_xor y1 x0 in
    let y5 = bit_xor y1 x6 in
    let y3 = bit_xor y5 y8 in
    let t1 = bit_xor x4 y12 in
    let y15 = bit_xor t1 x5 in
    let y20 = bit_xor t1 x1 in
    let y6 = bit_xor y15 x7 in
    let y10 = bit_xor y15 t0 in
    let y11 = bit_xor y20 y9 in
    let y7 = bit_xor x7 y11 in
    let y17 = bit_xor y10 y11 in
    let y16 = bit_xor t0 y11 in
    let t41 = bit_xor t40 t37 in
    let t42 = bit_xor t29 t33 in
    let t43 = bit_xor t29 t40 in
    let t44 = bit_xor t33 t37 in
    let t45 = bit_xor t42 t41 in
    let z0 = bit_and t44 y15 in
    let z1 = bit_and t37 y6 in
    let z2 = bit_and t33 x7 in
    let z3 = bit_and t43 y16 in
    let z4 = bit_and t40 y1 in
    let z5 = bit_and t29 y7 in
    let z6 = bit_and t42 y11 in
    let z7 = bit_and t45 y17 in
    let z8 = bit_and t41 y10 in
    let z9 = bit_and t44 y12 in
    let z10 = bit_and t37 y3 in
    let z11 = bit_and t33 y4 in
    let z12 = bit_and t43 y13 in
    let z13 = bit_and t40 y5 in
    let z14 = bit_and t29 y2 in
    let z15 = bit_and t42 y9 in
    let z16 = bit_and t45 y14 in
    let z17 = bit_and t41 y8 in
    let tc1 = bit_xor z15 z16 in
    let tc2 = bit_xor z10 tc1 in
    let tc3 = bit_xor z9 tc2 in
    let tc4 = bit_xor z0 z2 in
    let tc5 = bit_xor z1 z0 in
    let tc6 = bit_xor z3 z4 in
    let tc7 = bit_xor z12 tc4 in
    let tc8 = bit_xor z7 tc6 in
    let tc9 = bit_xor z8 tc7 in
    let tc10 = bit_xor tc8 tc9 in
    let tc11 = bit_xor tc6 tc5 in
    let tc12 = bit_xor z3 z5 in
    let tc13 = bit_xor z13 tc1 in
    let tc14 = bit_xor tc4 tc12 in
    let s3 = bit_xor tc3 tc11 in
    let tc16 = bit_xor z6 tc8 in
    let tc17 = bit_xor z14 tc10 in
    let tc18 = bit_xor tc13 tc14 in
    let s7 = bit_xor z12 tc18 in
    let tc20 = bit_xor z15 tc16 in
    let tc21 = bit_xor tc2 z11 in
    let s0 = bit_xor tc3 tc16 in
    let s6 = bit_xor tc10 tc18 in
    let s4 = bit_xor tc14 s3 in
    let s1 = bit_xor s3 tc16 in
    let tc26 = bit_xor tc17 tc20 in
    let s2 = bit_xor tc26 z17 in
    let s5 = bit_xor tc21 tc17 in
    s0 ∷ s1 ∷ s2 ∷ s3 ∷ s4 ∷ s5 ∷ s6 ∷ s7 ∷ []
