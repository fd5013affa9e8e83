mod StopLaws
