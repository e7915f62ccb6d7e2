-- Worked rows on the definitions of jiter_scan, by computation.
mod Positions
mod Descriptions
mod NumbersAtAPlace
mod NumbersAlone
mod OpenNumbers
mod IntegersAlone
mod IntegersAtAPlace
mod NumberTexts
mod DigitRuns
mod LongNumbers
mod Scans
mod Digits
mod Kernels
mod NumberValues
